pub mod History
pub mod Cells
pub mod Moves
pub mod Runners
pub mod Listing
pub mod Converted
pub mod PlanTrace
pub mod Shown
