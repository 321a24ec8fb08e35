pub mod Fault
pub mod Header
pub mod Options
pub mod OrderFrame
pub mod OrderLines
pub mod OrderOption
pub mod Request
pub mod Running
