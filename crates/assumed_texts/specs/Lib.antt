-- Public: what public clauses say, and public definitions of other crates.
pub mod AssumedTexts
-- Private: what clauses of private functions cite, and how private fields are seen.
pub mod Deciding
pub mod Kinds
pub mod Shapes
pub mod Constructors
pub mod Listing
pub mod Filing
pub mod AssumedView
