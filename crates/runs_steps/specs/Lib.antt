pub mod Standing
pub mod StepLaws
