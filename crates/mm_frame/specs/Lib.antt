-- Public: what public clauses say, and public definitions of other crates.
pub mod Numbered
pub mod NumberLists
pub mod ExpressionView
pub mod StateHypotheses
pub mod PlacedHypotheses
pub mod PlacedOrder
pub mod TreeView
pub mod PlainFrames
pub mod NeededNumbers
pub mod HypothesesView
pub mod DisjointView
pub mod KnownNames
pub mod NamesView
pub mod Places
pub mod Listed
pub mod Grouping
pub mod CitedView
pub mod Labels
pub mod Spots
-- Laws: what follows from that. Each is a clause of a function that does nothing.
pub mod NumberedSteps
-- Private: what clauses of private functions cite, and how private fields are seen.
pub mod EntriesView
pub mod ShortWords
pub mod TreeOrder
pub mod Times
pub mod CountsView
