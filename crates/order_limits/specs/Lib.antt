pub mod Dollars
pub mod Money
pub mod Over
pub mod Limits
pub mod Day
pub mod Within
pub mod Worked
