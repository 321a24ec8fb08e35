pub mod Answered
pub mod Shown
pub mod Sums
pub mod Executions
