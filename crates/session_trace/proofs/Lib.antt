-- What a session writes beside its log, and what follows of a whole log.
pub mod Going
pub mod Making
pub mod Wrote
pub mod Whole
