pub mod Removal
