-- What only proofs and private functions use.
pub mod Ends
pub mod Faults
