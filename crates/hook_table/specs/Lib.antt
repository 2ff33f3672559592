-- Public: what public clauses say, and public definitions of other crates.
pub mod Names
pub mod Rows
pub mod Scalars
