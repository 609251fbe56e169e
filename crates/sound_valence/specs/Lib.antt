pub mod Words
pub mod Alike
pub mod Marks
pub mod Kept
pub mod Undo
pub mod OtherWords
pub mod WrongWord
