pub mod Passing
pub mod PassingLaws
