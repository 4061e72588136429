pub use Rattle.fleet_planner.specs.Aimed
pub use Rattle.turns_law.specs.Turns
pub use Rattle.turns_law.specs.Turn
pub mod Moving
pub mod inside
