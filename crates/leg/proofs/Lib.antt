pub mod Letters
pub mod Seam
pub mod Digits
pub mod LegIdText
pub mod SymbolText
pub mod InRange
pub mod SplitShares
pub mod Numbered
