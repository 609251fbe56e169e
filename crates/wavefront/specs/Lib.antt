pub mod Obj
pub mod Lengths
