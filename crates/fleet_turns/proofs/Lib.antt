pub mod ToCores
pub mod CoreDistances
pub mod Plans
pub mod Puts
pub mod OnFloor
