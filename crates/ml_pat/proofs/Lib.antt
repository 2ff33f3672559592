pub mod NamedLaws
pub mod LeafLaws
pub mod SpineLaws
pub mod ReplacingLaws
