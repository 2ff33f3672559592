pub mod InstanceLaws
pub mod DerivationLaws
pub mod Merging
pub mod RuleLaws
pub mod StepLaws
pub mod SpineLaws
pub mod RenamingLaws
pub mod ErasedSteps
