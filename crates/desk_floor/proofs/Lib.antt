mod Changed
mod Places
mod Rising
mod Copied
mod Known
pub mod LastRefusals
