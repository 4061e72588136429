-- What only proofs and private functions use.
pub mod Following
pub mod Found
pub mod Steps
