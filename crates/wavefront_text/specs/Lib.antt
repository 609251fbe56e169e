pub mod PutLaws
pub mod LineLaws
