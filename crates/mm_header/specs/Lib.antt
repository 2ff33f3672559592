-- Public: what public clauses say, and public definitions of other crates.
pub mod Header
pub mod HeaderRows
pub mod HeaderText
pub mod HeaderContext
pub mod HeaderTable
-- Laws: what follows from that. Each is a clause of a function that does nothing.
pub mod HeaderLaws
