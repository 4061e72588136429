pub mod Visits
pub mod Cycles
pub mod Kept
pub mod Still
pub mod Waits
