pub mod Words
pub mod Said
pub mod Placing
-- Examples.
pub mod Rows
