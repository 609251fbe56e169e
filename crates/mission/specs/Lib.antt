pub mod Refusals
pub mod SweepRefusals
pub mod SoundActs
pub mod SweepActs
pub mod TakeDown
pub mod Sweeping
pub mod Mission
