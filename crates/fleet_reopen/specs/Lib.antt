pub mod Room
pub mod Reopening
pub mod Chapters
pub mod inside
