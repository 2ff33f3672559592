-- Public: what public clauses say, and public definitions of other crates.
pub mod Folds
pub mod Applicative
pub mod FoldHeights
pub mod ValueTexts
pub mod PatternSorts
pub mod PatternFaults
pub mod PatternMeanings
pub mod PartNames
pub mod Variables
pub mod Pairs
pub mod VariableNames
pub mod FaultNumbers
-- Laws: what follows from that. Each is a clause of a function that does nothing.
pub mod SortedMeanings
-- Private: what clauses of private functions cite, and how private fields are seen.
pub mod Notes
pub mod FoldFaults
pub mod Building
pub mod VariableKeys
pub mod VariableFields
