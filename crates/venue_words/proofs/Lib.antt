pub mod Presets
pub mod Examples
