pub mod Executions
pub mod Walk
pub mod Named
pub mod Counts
