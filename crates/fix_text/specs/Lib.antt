-- The text of a frame.
pub mod Tagged
pub mod Text
pub mod Frame
pub mod Grammar
-- How a stream is read.
pub mod Then
pub mod Reading
pub mod Waiting
pub mod Calls
-- What the code hands out.
pub mod FrameFields
pub mod FrameParts
pub mod Lending
pub mod Sink
-- How the reader goes about it.
pub mod Placing
pub mod Passing
pub mod Deciding
-- Lemmas: nothing to believe.
pub mod Lemmas
