pub mod ExitStatus
pub mod FrameText
pub mod Output
