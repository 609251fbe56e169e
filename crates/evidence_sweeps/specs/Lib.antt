pub mod Tables
pub mod Rows
