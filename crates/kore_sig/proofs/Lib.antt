-- Laws of the definitions.
pub mod CountedLaws
pub mod DeclaringLaws
pub mod FaultLaws
pub mod FirstLaws
pub mod InjectionLaws
pub mod KnowingLaws
pub mod ListLaws
pub mod NotDeclared
pub mod MeaningLaws
pub mod NotedLaws
pub mod OrderLaws
pub mod PairLaws
pub mod SetLaws
pub mod TreeLists
pub mod UniqueLaws
pub mod WholeLaws
