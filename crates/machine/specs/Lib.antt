pub mod Machine
pub mod Acts
