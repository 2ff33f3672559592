pub mod Named
pub mod NamedSteps
pub mod Groups
pub mod Placing
pub mod HypothesesKept
pub mod Listing
pub mod Apartness
pub mod Grouped
pub mod Labelled
pub mod KnownEntries
pub mod PlacedLists
mod Counting
pub mod Splits
pub mod Spotting
