pub mod Given
pub mod Logging
pub mod Printed
