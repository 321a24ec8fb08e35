pub mod Worth
-- How it is kept beside a book.
pub mod Kept
-- Examples.
pub mod Rows
