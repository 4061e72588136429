pub mod Lines
pub mod Text
pub mod Journal
pub mod Cut
pub mod inside
