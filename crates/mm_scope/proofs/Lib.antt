pub mod Repeats
pub mod StateAdds
pub mod FramePlaces
pub mod Namings
pub mod StandTests
pub mod StandFaults
pub mod StandAdds
pub mod StandScopes
pub mod StandFrames
pub mod StandStatements
pub mod Taken
pub mod StandReads
pub mod StandSteps
mod MandatoryTrees
mod CommonPairs
mod CommonSteps
mod OuterKept
mod FramesKept
mod Proposed
