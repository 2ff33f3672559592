-- Public: what public clauses say, and public definitions of other crates.
pub mod Collapsed
-- Laws: what follows from that, and what stands on definitions that are not public.
pub mod Heads
pub mod Positions
pub mod Rows
pub mod MatchTrees
pub mod Occurrences
pub mod PlaceView
pub mod TreeLaws
pub mod Findings
pub mod HeadView
pub mod MatrixView
pub mod Groups
pub mod MatrixLaws
