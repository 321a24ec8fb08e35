pub mod WorkerReached
pub mod WorkerStays
pub mod WorkerStands
pub mod TookFirst
pub mod DayOverLives
pub mod MadeAgain
pub mod ByBytes
