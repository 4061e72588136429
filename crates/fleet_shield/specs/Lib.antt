pub use Rattle.fleet_grid.specs.Floor
pub use Rattle.fleet_grid.specs.Step
pub mod Size
pub mod Wishes
pub mod Fault
pub mod Shielded
pub mod inside
