pub mod Waiting
pub mod Errands
pub mod Reach
pub mod Bound
pub mod Onward
pub mod Arriving
pub mod Idle
pub mod Roomy
