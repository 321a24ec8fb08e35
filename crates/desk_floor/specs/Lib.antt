pub mod JournalNews
pub mod Release
pub mod Standing
pub mod Changes
pub mod Legs
pub mod Status
pub mod Refused
