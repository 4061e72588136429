pub mod Sequences
pub mod Runs
pub mod Clients
pub mod Counts
pub mod Ended
pub mod Faults
pub mod Others
