-- What only proofs and private functions use.
pub mod Plain
pub mod Calm
pub mod Clients
pub mod Opened
pub mod Rooms
pub mod Turns
