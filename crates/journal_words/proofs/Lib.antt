pub mod Terms
pub mod Parts
pub mod Faults
pub mod DeedsBack
pub mod DeskBack
pub mod AreLines
