pub mod Jobs
pub mod Services
pub mod Outcomes
