pub mod SpacedLegs
pub mod NamedLegs
pub mod VenueLines
pub mod SweepLines
pub mod SummaryLines
