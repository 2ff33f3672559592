-- Public: what public clauses say, and public definitions of other crates.
pub mod Steps
-- Private: what clauses of private functions cite, and how private fields are seen.
pub mod RuleLemmas
pub mod Applying
pub mod Meeting
pub mod Normalizing
pub mod SideLemmas
pub mod KeptSides
pub mod Turning
pub mod ProverView
