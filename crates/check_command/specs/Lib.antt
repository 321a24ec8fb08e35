pub mod Fault
pub mod FaultText
pub mod Request
pub mod PathName
pub mod Runs
pub mod DayRead
pub mod Sentences
pub mod Running
