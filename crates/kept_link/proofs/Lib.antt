pub mod KeptFirst
pub mod Fields
pub mod Lines
