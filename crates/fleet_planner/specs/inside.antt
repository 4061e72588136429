-- What only proofs and private functions use.
pub mod Turns
pub mod Started
