-- What only proofs and private functions use.
pub mod Causes
pub mod Lanes
pub mod Leftovers
pub mod LastTicks
pub mod Openings
