-- Public: what public clauses say, and public definitions of other crates.
pub mod Tables
pub mod Compression
-- Private: what clauses of private functions cite, and how private fields are seen.
pub mod Links
pub mod TableView
pub mod Walking
pub mod Numbering
