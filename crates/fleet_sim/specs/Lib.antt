pub mod Sim
pub mod Table
pub mod Ties
