mod Ends
mod Journals
mod Lines
