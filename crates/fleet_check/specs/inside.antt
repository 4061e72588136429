-- What only proofs and private functions use.
pub mod Seats
pub mod Slots
