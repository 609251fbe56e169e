pub mod Theorems
pub mod Instances
