-- Public: what public clauses say, and public definitions of other crates.
pub mod ReadableSides
pub mod ReadableEquations
pub mod EquationMeanings
pub mod Guards
pub mod LastResortEquations
pub mod NamedEquations
pub mod Readings
pub mod Marks
-- Laws: what follows from that. Each is a clause of a function that does nothing.
pub mod ReadingLaws
-- Private: what clauses of private functions cite, and how private fields are seen.
pub mod ClearEquations
pub mod BuiltEquations
pub mod MeantEquations
pub mod GuardReadings
