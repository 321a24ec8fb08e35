pub mod Text
pub mod JsonText
pub mod Ending
pub mod Running
