pub mod TakeLaws
pub mod FreeLaws
pub mod CornerLaws
pub mod MovedLaws
pub mod ConditionLaws
