pub mod Places
pub mod Follows
pub mod Begun
pub mod Text
pub mod Heard
pub mod Opened
pub mod Answers
