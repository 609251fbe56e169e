pub mod Exact
pub mod Sound
