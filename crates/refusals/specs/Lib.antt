pub mod Numbers
pub mod UnlessLaws
