pub mod Texts
pub mod Moments
pub mod Contents
pub mod Lines
pub mod Walks
