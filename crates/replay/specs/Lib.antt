pub mod Telling
pub mod Redoing
pub mod Noting
pub mod Ruling
pub mod DaySeen
pub mod Starting
