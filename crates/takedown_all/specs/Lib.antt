pub mod Ending
pub mod TurnsLaws
pub mod BackLaws
