mod FrameHeads
mod Frames
mod Heard
mod Noting
mod Splitting
mod Writes
