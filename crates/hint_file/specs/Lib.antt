-- Public: what public clauses say, and public definitions of other crates.
pub mod Paths
pub mod HintTexts
pub mod HintLines
pub mod HintFiles
pub mod ReadPaths
pub mod RunTexts
-- Laws: what follows from that. Each is a clause of a function that does nothing.
pub mod HintLaws
pub mod ReadingLaws
pub mod RunTextLaws
-- Private: what clauses of private functions cite, and how private fields are seen.
pub mod ReadAnswers
