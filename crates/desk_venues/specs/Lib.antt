pub mod Addresses
pub mod Dresses
pub mod Faults
pub mod Starts
pub mod Venues
