pub mod Dealing
pub mod Heard
pub mod Hearing
pub mod Recording
pub mod Sending
