pub mod Walks
pub mod Amid
pub mod Held
pub mod Operands
pub mod Inverse
pub mod Scripts
pub mod Instances
pub mod KefMoments
