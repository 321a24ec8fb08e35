pub mod Lines
pub mod Intake
pub mod DeskDay
pub mod VenueDay
pub mod Orders
pub mod Sweeps
pub mod Sentence
pub mod Judged
