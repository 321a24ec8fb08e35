-- The numbers sent and expected.
pub mod Log
pub mod Later
pub mod Expected
pub mod Judging
pub mod Window
-- How the log is kept.
pub mod Kept
pub mod Runs
pub mod KeptRuns
