pub mod Message
pub mod Line
pub mod Quickfix
