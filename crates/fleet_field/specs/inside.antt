-- What only proofs and private functions use.
pub mod Search
pub mod Labels
pub mod Laid
pub mod Uses
pub mod Work
pub mod Sorted
pub mod Queue
pub mod Estimate
pub mod Known
pub mod Left
