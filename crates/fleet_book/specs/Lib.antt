pub mod Limits
pub mod Rule
pub mod Counts
pub mod Refusals
