pub mod Visit
pub mod Spread
pub mod Whole
pub mod Distance
pub mod Transfer
pub mod Shares
pub mod Uses
pub mod Missing
pub mod Together
pub mod Sides
pub mod Made
pub mod Inverse
pub mod Marks
pub mod Descent
pub mod Nearer
pub mod Cached
pub mod Ahead
pub mod Halves
pub mod Labels
pub mod Pointed
pub mod Laid
pub mod Unseen
pub mod Fronted
pub mod Queued
pub mod Beside
mod Estimates
pub mod Grown
mod Read
mod Searches
mod Serving
mod Settled
