-- Public: what public clauses say, and public definitions of other crates.
pub mod RecordedPaths
pub mod PathProofs
-- Private: what clauses of private functions cite, and how private fields are seen.
pub mod OpenPaths
