-- Laws: what follows from that. Each is a clause of a function that does nothing.
pub mod Letters
pub mod Pieces
pub mod Holding
pub mod Readings
pub mod ReadingLaws
pub mod Proving
pub mod ProvingLaws
