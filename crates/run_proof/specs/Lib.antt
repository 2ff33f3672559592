-- Public: what public clauses say, and public definitions of other crates.
pub mod ClosedProofs
pub mod OpenProofs
pub mod StuckRuns
pub mod ShownRules
-- Private: what clauses of private functions cite, and how private fields are seen.
pub mod ProvedSteps
pub mod RunHints
pub mod StuckEnds
