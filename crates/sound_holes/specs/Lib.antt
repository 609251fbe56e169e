pub mod Chains
pub mod MfkrhSound
pub mod KfmrhSound
pub mod Undone
pub mod Shown
pub mod KfmrhAccepted
pub mod MfkrhAccepted
pub mod Exact
