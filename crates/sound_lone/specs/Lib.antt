pub mod Placed
pub mod MvsfSound
pub mod KvsfSound
pub mod Accepted
pub mod Exact
