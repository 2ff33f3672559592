pub mod HeaderValid
pub mod Pairs
pub mod HeaderFrames
pub mod Appended
