-- What the text of a string denotes.
pub mod CharacterLaws
pub mod StringTexts
-- The tokens in the text of a spelling.
pub mod TokenPieces
pub mod SpelledStreams
pub mod PartedPatterns
-- The tree that they spell.
pub mod Unplacing
pub mod Settling
pub mod ReadingBack
-- Which trees can be read.
pub mod TextualStreams
pub mod Readable
-- What is written.
pub mod Written
pub mod FormLaws
pub mod CharactersWritten
