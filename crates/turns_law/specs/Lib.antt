pub mod Turns
pub mod Turn
pub mod ToGo
pub mod Fleet
