pub mod Fault
pub mod LiveOption
pub mod LivePlan
pub mod LiveText
pub mod Running
