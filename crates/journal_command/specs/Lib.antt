pub mod Fault
pub mod Request
pub mod Shown
pub mod Judged
pub mod Logged
pub mod Running
