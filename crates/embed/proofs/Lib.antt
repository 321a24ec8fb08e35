pub mod Dropped
pub mod Packets
