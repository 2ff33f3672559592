-- Public: what public clauses say, and public definitions of other crates.
pub mod RunProof
pub mod Starting
pub mod Proving
pub mod WrittenProofs
pub mod AddedLemmas
pub mod Summaries
pub mod Ends
-- Private: what clauses of private functions cite, and how private fields are seen.
pub mod Reaching
pub mod ReachLemma
pub mod Going
pub mod Again
pub mod ProofView
pub mod RestView
