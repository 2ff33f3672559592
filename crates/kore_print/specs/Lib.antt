-- Public: what public clauses say, and public definitions of other crates.
pub mod TokenText
pub mod CanonicalText
pub mod Reading
-- Laws: what follows from that. Each is a clause of a function that does nothing.
pub mod PrintLaws
-- Private: what clauses of private functions cite, and how private fields are seen.
pub mod Writing
