pub mod VenueCheck
pub mod Checked
