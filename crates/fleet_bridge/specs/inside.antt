-- What only proofs and private functions use.
pub mod Capped
pub mod First
pub mod Housed
pub mod Listed
pub mod Places
pub mod Preorder
pub mod Search
pub mod Sides
pub mod Spanning
pub mod Tree
