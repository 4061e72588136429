pub mod Unroomy
pub mod inside
