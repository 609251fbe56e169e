pub mod Program
pub mod ProgramLaws
pub mod Examples
