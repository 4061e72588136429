pub mod Command
pub mod Asked
pub mod Named
pub mod Answer
pub mod Inputs
pub mod Laws
pub mod Outcome
pub mod Told
