pub mod Words
pub mod Fault
pub mod Legs
pub mod Line
pub mod Written
