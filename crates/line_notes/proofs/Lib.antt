pub mod Accepting
pub mod OwnAccepted
pub mod NotesGiven
pub mod Example
