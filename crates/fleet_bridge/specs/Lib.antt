pub mod Bridge
pub mod Bridges
pub mod Roominess
pub mod Rooms
pub mod inside
