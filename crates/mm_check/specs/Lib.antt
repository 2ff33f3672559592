-- Public: what public clauses say, and public definitions of other crates.
pub mod Offences
pub mod OffenceNumbers
pub mod Derived
pub mod JustifiedLines
-- Laws: what follows from that. Each is a clause of a function that does nothing.
pub mod OffenceLaws
-- Private: what clauses of private functions cite, and how private fields are seen.
pub mod Stated
pub mod RowTexts
pub mod HeaderLookup
pub mod StatedFrames
pub mod AxiomTests
pub mod AxiomsView
pub mod PlainStatements
pub mod Passing
pub mod Conclusions
pub mod Judging
