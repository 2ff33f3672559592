-- Public: what public clauses say, and public definitions of other crates.
pub mod Patterns
pub mod Leaves
pub mod PatternView
pub mod Judgements
pub mod Named
pub mod SpinePart
-- Laws: what follows from that. Each is a clause of a function that does nothing.
pub mod KnownLeaves
-- Private: what clauses of private functions cite, and how private fields are seen.
pub mod FormsIn
pub mod WholePattern
pub mod PatternCode
pub mod PatternSize
pub mod NamesView
pub mod Comparing
pub mod Judging
pub mod Spines
pub mod Replacing
pub mod Dropping
