pub mod Slips
