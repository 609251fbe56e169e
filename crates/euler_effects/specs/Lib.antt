pub mod Chosen
pub mod Performed
