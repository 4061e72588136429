pub mod Courses
pub mod Throws
