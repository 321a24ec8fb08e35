pub mod Booking
pub mod Hearing
pub mod Spoken
pub mod Speech
pub mod Connected
pub mod Told
pub mod Calling
pub mod HeardTold
pub mod Steps
pub mod Carrying
pub mod Doing
pub mod Doubts
pub mod Redone
mod Withdrawals
pub mod Shares
pub mod Ran
pub mod Places
