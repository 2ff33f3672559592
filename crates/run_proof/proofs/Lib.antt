pub mod ClosedLaws
pub mod LineLaws
pub mod StepLaws
pub mod ShownLaws
