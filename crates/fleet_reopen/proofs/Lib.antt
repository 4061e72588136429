pub mod Rooms
pub mod Far
pub mod Ends
pub mod Chain
