-- The book and its calls.
pub mod Entries
pub mod Shares
pub mod Book
-- One step of a leg, one report.
pub mod Steps
pub mod Reports
-- Examples.
pub mod Rows
-- How the book is kept.
pub mod Kept
