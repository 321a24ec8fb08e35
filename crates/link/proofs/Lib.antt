mod Found
pub mod Taking
pub mod Walks
