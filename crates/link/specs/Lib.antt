pub mod Counts
pub mod Dialling
pub mod Goals
pub mod Hosts
pub mod Told
pub mod Traffic
