pub mod InWords
pub mod Walks
pub mod EndsLaws
