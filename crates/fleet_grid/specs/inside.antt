-- What only proofs and private functions use.
pub mod Kept
pub mod Parts
