pub mod Series
pub mod Ranks
pub mod Runs
pub mod Numbers
pub mod Whole
pub mod Cursor
pub mod Ranked
pub mod Least
