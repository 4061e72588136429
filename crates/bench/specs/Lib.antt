pub mod Fleet
