pub mod Views
pub mod Ticking
pub mod Pausing
pub mod Keeping
pub mod Going
pub mod Arrivals
pub mod Places
pub mod Queued
