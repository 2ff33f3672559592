pub mod Truths
pub mod Appending
pub mod Writing
pub mod AtPlaces
pub mod LettersRead
pub mod Runs
pub mod Digits
pub mod Spelling
