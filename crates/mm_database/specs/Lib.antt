-- Public: what public clauses say, and public definitions of other crates.
pub mod Forms
pub mod Frames
pub mod Database
pub mod Proofs
pub mod Steps
pub mod ProofText
pub mod Validity
pub mod StatementTexts
pub mod Compressing
pub mod ProofTexts
pub mod Assertions
pub mod Leaving
-- Laws: what follows from that. Each is a clause of a function that does nothing.
pub mod Stack
pub mod ComputedFault
pub mod Cases
pub mod FrameLaws
pub mod CleanTokens
pub mod Writing
pub mod Orderly
