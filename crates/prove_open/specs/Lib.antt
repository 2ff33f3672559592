-- Public: what public clauses say, and public definitions of other crates.
pub mod Givens
pub mod Under
pub mod Differences
-- Private: what clauses of private functions cite.
pub mod Values
pub mod Instances
pub mod Elements
pub mod Known
pub mod FactSides
pub mod Hypotheses
