pub mod Cause
pub mod Venue
pub mod Sweep
pub mod Paid
pub mod News
pub mod Status
pub mod Doubt
pub mod Day
