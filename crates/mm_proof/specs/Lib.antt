-- Public: what public clauses say, and public definitions of other crates.
pub mod Tokens
pub mod Judgements
pub mod Labels
pub mod Trees
pub mod Derivations
pub mod ClosedFrames
pub mod Writing
pub mod Listings
-- Laws: what follows from that. Each is a clause of a function that does nothing.
pub mod SoundCiting
pub mod Serving
pub mod RenderLaws
pub mod Cases
-- Private: what clauses of private functions cite, and how private fields are seen.
pub mod WorkStacks
pub mod TextStacks
pub mod TableView
pub mod KnownTrees
pub mod Searching
pub mod Shapes
