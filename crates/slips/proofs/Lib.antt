pub mod Places
pub mod Chain
pub mod Steps
pub mod Told
pub mod Sent
