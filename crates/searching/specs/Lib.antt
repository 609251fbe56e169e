pub mod Searching
pub mod SearchingLaws
