-- Public: what public clauses say, and public definitions of other crates.
pub mod Evaluable
pub mod EvalEnds
pub mod Recorded
pub mod RecordLists
-- Private: what clauses of private functions cite, and how private fields are seen.
pub mod EngineView
pub mod Injections
pub mod EquationTrees
pub mod LastResorts
pub mod Roots
pub mod Giving
pub mod Equations
pub mod TestPrograms
