pub mod Ascii
pub mod Distinct
