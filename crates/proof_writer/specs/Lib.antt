-- Public: what public clauses say, and public definitions of other crates.
pub mod PlainNames
pub mod Writing
pub mod StatedTheorems
-- Private: what clauses of private functions cite, and how private fields are seen.
pub mod WritingOn
