pub mod Escaped
pub mod Label
pub mod Places
pub mod Elements
