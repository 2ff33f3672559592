pub mod Taken
pub mod NumberLaws
pub mod RunTests
pub mod WordTests
