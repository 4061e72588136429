-- What only proofs and private functions use.
pub mod Turning
pub mod Kinds
