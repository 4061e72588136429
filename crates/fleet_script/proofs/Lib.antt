pub mod Starts
pub mod Bundles
pub mod Heads
pub mod Forms
pub mod Values
pub mod Readings
pub mod Rolls
