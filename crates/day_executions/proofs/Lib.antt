mod Walking
mod Indexing
mod Lending
mod Calls
mod OneNamed
mod Now
mod Telling
pub mod NothingListed
