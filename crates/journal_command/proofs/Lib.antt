pub mod Say
pub mod Lines
pub mod Logs
