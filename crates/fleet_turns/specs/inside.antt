-- What only proofs and private functions use.
pub mod Cores
pub mod Lent
pub mod Checked
