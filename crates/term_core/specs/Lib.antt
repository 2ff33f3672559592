-- Public: what public clauses say, and public definitions of other crates.
pub mod Terms
pub mod Forests
pub mod NormalForms
pub mod Values
pub mod HookValues
pub mod HookSignatures
pub mod ValueTexts
pub mod Heads
pub mod Patterns
pub mod Instances
pub mod RulePatterns
pub mod PatternLists
-- Laws: what follows from that. Each is a clause of a function that does nothing.
pub mod GroundPatterns
-- Private: what clauses of private functions cite, and how private fields are seen.
pub mod TermCode
pub mod TreeTest
pub mod TermView
pub mod TermSize
