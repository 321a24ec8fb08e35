pub mod OnAccepted
pub mod NotesTheorem
pub mod Example
