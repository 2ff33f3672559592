pub mod SortLaws
pub mod TreeLists
pub mod PatternForms
pub mod GuardLaws
