-- Public: what public clauses say, and public definitions of other crates.
pub mod Schemas
pub mod Opening
pub mod Using
pub mod Elements
-- Private: what clauses of private functions cite.
pub mod Assumptions
pub mod Giving
