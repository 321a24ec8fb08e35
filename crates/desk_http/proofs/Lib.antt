pub mod Fields
pub mod Rightful
pub mod Steps
pub mod UserFound
pub mod VenuesWritten
