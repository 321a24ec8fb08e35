pub mod Opening
pub mod Audited
pub mod Doubts
pub mod Followers
pub mod Seats
pub mod Told
pub mod Unbooked
pub mod Whole
