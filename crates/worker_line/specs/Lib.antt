pub mod Happening
pub mod Gone
pub mod Shares
pub mod WorkerTheorem
pub mod Example
pub mod Wire
pub mod Coming
pub mod DayByBytes
