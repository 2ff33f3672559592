-- Public: what public clauses say, and public definitions of other crates.
pub mod Configurations
pub mod NextSteps
-- Laws: what stands on definitions that are not public, and what follows from it.
pub mod KeptRules
-- Private: what clauses of private functions cite, and how private fields are seen.
pub mod RunCode
pub mod Choosing
pub mod Keeping
pub mod Stepping
pub mod WithRecords
