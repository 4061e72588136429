-- What only proofs and private functions use.
pub mod Walk
pub mod Few
pub mod Fits
pub mod Kept
pub mod Figures
pub mod Given
pub mod Answered
pub mod Follow
pub mod Seats
