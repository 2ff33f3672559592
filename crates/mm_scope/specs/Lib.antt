-- Public: what public clauses say, and public definitions of other crates.
pub mod FormsRead
pub mod ScopeState
pub mod StateFrames
pub mod Standing
pub mod TakesStatement
pub mod StateReads
pub mod Proposing
pub mod AddedView
-- Laws: what follows from that. Each is a clause of a function that does nothing.
pub mod StandingLaws
-- Private: what clauses of private functions cite, and how private fields are seen.
pub mod FormParts
pub mod StateTests
pub mod StateFaults
pub mod StateSteps
pub mod StatePlaces
pub mod Sharing
pub mod Judging
pub mod Ending
