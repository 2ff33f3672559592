-- Public: what public clauses say, and public definitions of other crates.
pub mod Conditions
pub mod Priorities
pub mod Uses
pub mod RuleParts
pub mod LeftNames
pub mod RuleForms
pub mod RuleFaults
pub mod AxiomClasses
pub mod NamedRules
pub mod AxiomMeanings
pub mod Refusals
pub mod Views
pub mod ClassViews
pub mod UsedSymbols
-- Private: what clauses of private functions cite, and how private fields are seen.
pub mod FoldUses
pub mod BuiltRules
