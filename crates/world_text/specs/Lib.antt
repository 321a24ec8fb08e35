pub mod SweepLine
pub mod Summary
