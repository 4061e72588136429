pub mod Followed
pub mod Sound
pub mod Lists
pub mod Ways
pub mod Steps
pub mod Balance
pub mod Counted
