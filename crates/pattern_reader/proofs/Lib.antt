pub mod MachineLaws
pub mod WordLaws
pub mod TokenLaws
pub mod Keeping
pub mod Renumbering
