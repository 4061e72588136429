pub mod Field
pub mod Kept
pub mod Store
pub mod FieldCache
pub mod Several
pub mod Compass
pub mod Growing
pub mod inside
