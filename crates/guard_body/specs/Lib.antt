-- Public: what public clauses say.
pub mod Arguments
pub mod Guarded
pub mod Renaming
pub mod Hypotheses
