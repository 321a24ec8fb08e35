pub mod Lives
pub mod RestartTheorem
pub mod OverRestarts
pub mod Reports
pub mod Spared
pub mod Example
pub mod UnsafeWire
pub mod UnsafeStarts
