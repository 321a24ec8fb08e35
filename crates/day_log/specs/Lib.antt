pub mod By
pub mod Fault
pub mod Folder
pub mod Header
pub mod Messages
pub mod Noted
