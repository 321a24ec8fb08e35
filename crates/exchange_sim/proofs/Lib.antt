pub mod Acting
pub mod Listening
pub mod Prices
pub mod Written
