-- Single values.
pub mod App
pub mod CompId
pub mod Digits
pub mod Flag
pub mod Number
pub mod Price
pub mod Range
pub mod Shares
pub mod Stamp
-- A session's configuration.
pub mod Config
-- Messages, as they are written.
pub mod Header
pub mod Body
pub mod Message
pub mod Dress
-- Messages, as they are read.
pub mod Reading
pub mod Readable
pub mod Says
pub mod ReadsBack
