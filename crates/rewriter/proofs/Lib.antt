pub mod Trying
pub mod Walks
pub mod Started
pub mod StepRecords
