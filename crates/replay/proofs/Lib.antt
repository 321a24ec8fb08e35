pub mod EventsHappen
pub mod TakesHappen
pub mod DispatcherHappens
pub mod Nowhere
pub mod Theorem
mod AtVenue
mod Tells
mod Placed
mod Redone
mod JournalLines
mod NotedEvents
mod DayHappens
mod DayStarts
mod OpenDesks
mod BookAgain
mod StoodAgain
mod Upto
mod StartAll
