pub mod Posted
pub mod inside
