pub mod Asked
pub mod Sought
