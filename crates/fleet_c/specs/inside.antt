-- What only proofs and private functions use.
pub mod Runs
