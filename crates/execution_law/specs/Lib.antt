pub mod Run
pub mod Rule
pub mod Change
