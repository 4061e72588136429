-- For the crate's own proofs; no public contract uses it.
pub mod Making
