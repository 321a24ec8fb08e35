pub mod Config
pub mod Sweeps
pub mod Venues
pub mod Day
pub mod Told
