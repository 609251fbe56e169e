pub mod TextShows
pub mod Triangle
pub mod ObjReads
