mod Placed
mod Moves
pub mod Parts
mod Cuts
mod Walks
mod Answered
mod Judgings
mod Lines
mod Givings
mod Follows
pub mod Pieces
mod Turns
pub mod Grammar
mod Tables
mod Schedules
mod Scheduled
mod Seatings
mod Going
mod Leading
