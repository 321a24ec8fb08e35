-- The desk and its calls.
pub mod Released
pub mod Desk
pub mod Gates
-- Its history.
pub mod History
pub mod Laws
-- A sweep placed at desk and book.
pub mod Place
-- Examples.
pub mod Rows
-- How the desk is kept.
pub mod Kept
