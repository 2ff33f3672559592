-- Public: what public clauses say, and public definitions of other crates.
pub mod Readings
-- Laws: what follows from that. Each is a clause of a function that does nothing.
pub mod ReadingLaws
-- Private: what clauses of private functions cite, and how private fields are seen.
pub mod Words
pub mod Machine
pub mod Views
