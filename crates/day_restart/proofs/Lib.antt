pub mod Still
pub mod Redone
pub mod Sweeps
pub mod Places
pub mod Raised
pub mod Faults
pub mod Opened
