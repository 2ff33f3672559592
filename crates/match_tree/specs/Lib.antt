-- Laws: what stands on definitions that are not public, and what follows from it.
pub mod Labels
pub mod Trails
pub mod Spots
pub mod FlatNodes
pub mod NodeLaws
pub mod Walking
pub mod WalkSteps
pub mod TestView
pub mod Drafting
pub mod NodeView
pub mod TreeView
pub mod Programs
pub mod Ways
pub mod SlotView
pub mod Finding
pub mod Asking
pub mod ProgramLaws
-- Private: what clauses of private functions cite.
pub mod Agreement
pub mod Standing
pub mod TrailView
pub mod Joining
pub mod SpotView
pub mod WorkView
pub mod Binding
pub mod Passing
