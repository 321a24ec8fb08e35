pub mod Fields
pub mod Fronts
pub mod Keeping
pub mod Passing
