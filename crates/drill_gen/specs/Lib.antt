-- Public: what public clauses say, and public definitions of other crates.
pub mod Drill
-- Laws: what follows from that. Each is a clause of a function that does nothing.
pub mod DrillLaws
-- Private: what clauses of private functions cite, and how private fields are seen.
pub mod Texts
