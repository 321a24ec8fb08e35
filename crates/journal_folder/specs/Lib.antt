pub mod FileCalls
pub mod Head
pub mod Room
pub mod Found
pub mod Reads
pub mod NextFile
pub mod Start
pub mod Laws
