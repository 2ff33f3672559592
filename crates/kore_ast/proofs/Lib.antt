-- Laws on what is read.
pub mod Heads
pub mod Steps
pub mod Lists
pub mod PlainLaws
pub mod Sorts
pub mod Patterns
pub mod Sequences
pub mod Declared
pub mod Tops
