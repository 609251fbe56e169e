pub mod Turning
pub mod TurnLaws
