mod TrialLaws
mod EvaluatedLaws
mod UntrueLaws
mod ConditionLaws
pub mod RuleLaws
pub mod SettingLaws
pub mod StuckLaws
