pub mod Deed
pub mod Words
pub mod Reading
pub mod Desk
pub mod Laws
pub mod Example
