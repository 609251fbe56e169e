pub mod Whole
pub mod InversionExact
