pub mod Parts
pub mod KeptLeg
pub mod Close
pub mod Legs
pub mod Fate
pub mod Sweeps
pub mod LegLine
pub mod Execution
-- Examples.
pub mod Rows
