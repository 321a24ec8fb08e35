pub mod Decimals
pub mod Within
