-- What only proofs and private functions use.
pub mod Setting
pub mod Plan
pub mod Around
pub mod Candidate
pub mod Entry
pub mod Seating
pub mod Tables
pub mod Precedence
