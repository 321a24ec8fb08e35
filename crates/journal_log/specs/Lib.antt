pub mod Calls
pub mod Given
pub mod Logged
pub mod Head
