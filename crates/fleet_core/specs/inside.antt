-- What only proofs and private functions use.
pub mod Begun
pub mod Ready
pub mod Spent
pub mod Stamped
pub mod Kept
pub mod Mailboxes
pub mod Resumed
pub mod Roomy
