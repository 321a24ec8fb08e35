pub mod Sums
pub mod Bounds
pub mod Moving
pub mod Asking
pub mod Capping
pub mod Settling
