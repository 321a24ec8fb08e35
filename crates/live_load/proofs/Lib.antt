mod CallersLeft
mod LiveDays
mod Names
mod Orders
mod VenuesMade
