pub mod Labels
pub mod LabelsLaws
pub mod Cycles
pub mod CyclesLaws
pub mod OrbitsLaws
pub mod Instances
