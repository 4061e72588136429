-- What only proofs and private functions use.
pub mod Entered
pub mod Board
pub mod First
