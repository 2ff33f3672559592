-- Public: what public clauses say, and public definitions of other crates.
pub mod Assuming
-- Laws: what follows from that. Each is a clause of a function that does nothing.
pub mod AdequacyLaws
