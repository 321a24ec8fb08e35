-- How a day ends.
pub mod Codes
-- What the host is told.
pub mod Said
-- The lines to the venues.
pub mod Line
-- The desk and the book.
pub mod Keeping
