pub mod InRange
pub mod OneStamp
