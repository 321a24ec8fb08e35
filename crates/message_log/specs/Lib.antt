pub mod Line
pub mod Queue
pub mod Writer
