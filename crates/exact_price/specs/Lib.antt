pub mod Exact
pub mod Shown
