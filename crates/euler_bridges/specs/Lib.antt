pub mod Parts
pub mod StepLaws
