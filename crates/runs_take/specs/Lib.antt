pub mod Take
pub mod Pass
pub mod Turns
pub mod Outcome
