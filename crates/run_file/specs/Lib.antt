pub mod Fault
pub mod Passwords
pub mod Folder
