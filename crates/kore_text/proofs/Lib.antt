-- Laws on the table.
pub mod Reaching
pub mod Accepting
pub mod AcceptedPatterns
pub mod AcceptedDefinitions
pub mod Saying
pub mod Returning
pub mod ReturningFolds
pub mod Completing
pub mod Explaining
pub mod Cutting
pub mod StackLaws
pub mod Stepping
pub mod Looking
pub mod Faultless
pub mod Named
pub mod Unique
