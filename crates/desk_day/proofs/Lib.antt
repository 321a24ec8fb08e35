mod AllSeats
pub mod Auditing
pub mod Begun
mod DoubtsTold
mod LegsInDoubt
pub mod NewStarts
pub mod Whole
