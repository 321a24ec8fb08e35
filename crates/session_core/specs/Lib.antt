-- The session and its calls.
pub mod Session
pub mod Turn
pub mod Receiving
pub mod Calling
-- What a call hands its caller.
pub mod CallResult
pub mod Decision
-- What every call keeps.
pub mod Onward
pub mod Counting
pub mod Sound
-- Any list of calls, and an example.
pub mod Trial
pub mod Example
-- How a session is kept.
pub mod Kept
