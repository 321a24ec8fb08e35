pub mod SaidMore
pub mod Heads
pub mod SettledAgain
