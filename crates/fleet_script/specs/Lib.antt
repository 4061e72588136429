pub mod Numbers
pub mod Script
pub mod Runs
pub mod Shown
pub mod Grammar
pub mod Bundle
pub mod Event
