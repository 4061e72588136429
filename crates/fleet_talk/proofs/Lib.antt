pub mod Lines
pub mod Scripts
pub mod Saying
pub mod Keeping
pub mod Hearing
pub mod Heads
pub mod Talking
pub mod Rolling
pub mod Breaking
pub mod Onces
pub mod Onward
mod Doors
pub mod Finishing
pub mod Backing
pub mod Growing
pub mod OnwardBacked
pub mod Resumptions
pub mod Manners
pub mod Starting
pub mod Runs
pub mod Alike
pub mod Strips
mod Looks
