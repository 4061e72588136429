pub use Rattle.fleet_book.specs.Limits
pub mod Names
pub mod Ends
pub mod Posts
