pub mod Network
pub mod AtVenue
pub mod Taking
pub mod Delivering
pub mod Hearing
pub mod Kept
pub mod Ending
