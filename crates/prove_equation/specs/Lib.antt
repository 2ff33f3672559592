-- Public: what public clauses say, and public definitions of other crates.
pub mod EquationLemmas
pub mod Conditions
-- Private: what clauses of private functions cite.
pub mod Filled
pub mod Parameters
