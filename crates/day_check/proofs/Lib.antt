pub mod Upto
pub mod Judged
pub mod LinesRead
pub mod LogPrinted
