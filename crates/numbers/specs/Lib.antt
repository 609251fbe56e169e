pub mod Number
pub mod Padded
pub mod Groups
pub mod NumberLaws
pub mod NumberTrip
pub mod PaddedLaws
pub mod Unread
