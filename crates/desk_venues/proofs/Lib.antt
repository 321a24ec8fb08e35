mod Addressing
mod Hosting
mod NoMismatch
mod Plans
mod Standing
pub mod Starting
pub mod Wearing
