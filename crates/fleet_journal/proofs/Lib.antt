pub mod LineBytes
pub mod LineTexts
pub mod WholeLines
pub mod Readings
pub mod Cuts
