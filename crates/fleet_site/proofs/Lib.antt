pub mod Lists
pub mod Opened
