pub mod Ends
pub mod Marks
pub mod ReadTo
pub mod Kept
pub mod Fronts
pub mod AtReader
