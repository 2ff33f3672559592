-- Public: what public clauses say, and public definitions of other crates.
pub mod Rendered
pub mod Statements
pub mod OverNames
pub mod Fitting
pub mod Keeping
pub mod Places
pub mod Variables
pub mod Blocks
pub mod CitedAt
pub mod Claiming
pub mod ClaimVariables
-- Laws: what follows from that. Each is a clause of a function that does nothing.
pub mod Citable
pub mod OpenVariables
pub mod PremiseLabels
pub mod Provable
pub mod OpenCiting
pub mod OpenCases
pub mod RenderedCases
pub mod BlockCases
pub mod ClaimLaws
pub mod ClosedLaws
pub mod KeepingLaws
pub mod LaterLaws
pub mod StatementLaws
-- Private: what clauses of private functions cite, and how private fields are seen.
pub mod AddedVariables
