pub mod RuleLaws
pub mod CitingLaws
pub mod StayingLaws
pub mod PutLaws
pub mod ContextLaws
pub mod InstanceSteps
pub mod OpenSteps
pub mod ApplyingLaws
