pub mod Forest
pub mod ForestLaws
pub mod Shells
pub mod ShellsLaws
pub mod RuleLaws
pub mod Instances
