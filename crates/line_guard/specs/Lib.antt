pub mod Guard
pub mod Late
