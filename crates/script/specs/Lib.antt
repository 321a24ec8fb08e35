pub mod Lines
pub mod Reading
pub mod Head
pub mod Limits
pub mod Parts
pub mod Crash
pub mod DayScript
