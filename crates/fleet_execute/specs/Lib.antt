pub mod Goes
pub mod Text
pub mod Answers
pub mod Heard
pub mod Dialogue
pub mod Placed
pub mod inside
