pub mod Sweeps
pub mod Paid
