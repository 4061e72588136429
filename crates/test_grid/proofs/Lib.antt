pub mod TwoCells
pub mod FourGoals
pub mod ShortWaits
