pub mod Ascii
pub mod ShownBytes
