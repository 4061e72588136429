pub mod Fault
pub mod inside
