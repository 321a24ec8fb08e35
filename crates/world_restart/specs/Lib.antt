pub mod Journal
pub mod Start
pub mod Day
pub mod RestartTheorem
pub mod ForGood
pub mod NotesAgain
pub mod Deeds
pub mod Example
