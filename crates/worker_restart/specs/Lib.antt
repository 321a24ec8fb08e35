pub mod WorkerLives
pub mod WorkerRestartTheorem
pub mod LivesByBytes
