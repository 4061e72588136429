-- What only proofs and private functions use.
pub mod Due
pub mod Next
pub mod Fronts
