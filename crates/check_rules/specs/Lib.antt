pub mod CyclesSay
pub mod Labels
pub mod LabelsLaws
pub mod RuleFacts
pub mod RuleLaws
pub mod RulesSay
pub mod Says
