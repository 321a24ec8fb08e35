pub mod Tape
pub mod Told
pub mod Past
pub mod MemoryTape
