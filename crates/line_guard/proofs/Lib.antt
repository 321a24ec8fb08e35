mod SettledStays
mod Asked
mod Late
