pub mod Untaken
pub mod Words
pub mod Execution
pub mod Counts
