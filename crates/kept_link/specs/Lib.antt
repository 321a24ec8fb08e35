pub mod Door
pub mod Keeping
pub mod KeepingLaw
pub mod Telling
