-- Public: what public clauses say, and public definitions of other crates.
pub mod Stating
pub mod Justifying
pub mod Counting
pub mod FactForms
pub mod ProvedSentences
-- Laws: what follows from that. Each is a clause of a function that does nothing.
pub mod StatingLaws
pub mod JustifyingLaws
pub mod CountingLaws
pub mod JustifyingCases
pub mod ImageCases
pub mod LastResortCases
pub mod ImageLaws
