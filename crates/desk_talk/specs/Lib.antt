pub mod Logged
pub mod Rights
pub mod Said
pub mod Seat
pub mod Hold
pub mod HoldAnswer
