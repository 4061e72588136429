pub mod Checksum
pub mod Make
pub mod Record
pub mod Said
pub mod Text
pub mod Told
