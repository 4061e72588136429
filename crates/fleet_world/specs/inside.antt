-- What only proofs and private functions use.
pub mod Leftovers
pub mod Shown
