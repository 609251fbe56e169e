pub mod Rules
pub mod Parts
pub mod RangeLaws
pub mod NameLaws
pub mod JoinLaws
