pub mod Seats
pub mod Queues
pub mod Locked
pub mod Noted
pub mod Held
