-- Public: what public clauses say.
pub mod Implications
pub mod Conditions
