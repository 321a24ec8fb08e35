pub mod Fault
pub mod Asked
pub mod Days
pub mod Steps
pub mod Stream
pub mod Running
