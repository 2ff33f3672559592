pub mod Forests
pub mod PlainPatterns
pub mod PatternLaws
pub mod TreeTests
mod HookTries
