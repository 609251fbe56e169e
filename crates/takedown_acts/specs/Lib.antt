pub mod Held
pub mod ActLaws
