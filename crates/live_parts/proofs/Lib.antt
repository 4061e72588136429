pub mod Figuring
pub mod InARow
pub mod Keeping
pub mod MadeNotices
pub mod Recalling
pub mod Remembered
