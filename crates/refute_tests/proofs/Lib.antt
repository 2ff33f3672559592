pub mod PlainNames
pub mod LeftSides
pub mod NamedSides
pub mod Starts
