pub mod Rule
pub mod Port
