-- Public: what public clauses say, and public definitions of other crates.
pub mod Valuing
pub mod KeptLemmas
-- Private: what clauses of private functions cite, and how private fields are seen.
pub mod KeptView
pub mod RecordParts
pub mod Evaluating
pub mod Missing
pub mod Using
pub mod Denying
