-- Public: what public clauses say, and public definitions of other crates.
pub mod Rules
pub mod Renamings
pub mod RenamedAxioms
pub mod Derivability
pub mod Lemmas
pub mod Theorems
pub mod Concluding
pub mod StepView
pub mod UsedLeaves
pub mod MayCite
-- Private: what clauses of private functions cite, and how private fields are seen.
pub mod StepsIn
pub mod Premises
pub mod Spines
pub mod DerivationView
pub mod TheoremView
pub mod TheoryView
pub mod TheoremCode
pub mod DerivationSize
