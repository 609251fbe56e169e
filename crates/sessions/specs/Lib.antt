pub mod Session
pub mod Editing
