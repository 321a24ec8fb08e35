-- The rules of any exchange.
pub mod Acceptance
pub mod Keeping
-- Our exchange and its calls.
pub mod Order
pub mod SentRecord
pub mod Exchange
pub mod Acts
pub mod OrderDecision
pub mod Resending
-- What a call hands its caller.
pub mod Turn
pub mod Frames
-- What every call keeps.
pub mod Shares
pub mod Told
pub mod Sound
-- Worked days.
pub mod Rows
-- How an exchange is kept.
pub mod Kept
