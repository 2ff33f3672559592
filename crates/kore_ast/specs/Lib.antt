-- Public: what public clauses say, and public definitions of other crates.
pub mod Plain
pub mod TextFaults
pub mod KoreText
-- Private: what clauses of private functions cite, and how private fields are seen.
pub mod Told
pub mod Known
pub mod Keywords
pub mod Streams
pub mod Reading
