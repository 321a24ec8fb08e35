pub mod VenueName
pub mod Printable
