-- Values.
pub mod Fields
pub mod ShortFields
pub mod Split
pub mod Ordinal
pub mod Mark
pub mod Limit
pub mod Time
pub mod FreeText
pub mod Fill
pub mod JoinedSymbol
pub mod Digits
pub mod FixedId
-- Orders and reports.
pub mod OrderView
pub mod Report
pub mod ReportFields
pub mod ReportRead
pub mod ReportReading
pub mod Order
-- What a dialect says.
pub mod Wording
pub mod Dialect
pub mod Spelling
pub mod Spelled
-- The three dialects.
pub mod Plain
pub mod Split4
pub mod Coded
pub mod Words
pub mod Any
pub mod DialectName
-- Messages and their frames.
pub mod Message
pub mod Addressed
pub mod Outgoing
pub mod Writable
pub mod Read
pub mod Framed
-- Lemmas: nothing to believe.
pub mod Lemmas
