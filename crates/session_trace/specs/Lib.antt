-- What a log shows of a session, and what follows of its calls.
pub mod Shows
pub mod Written
pub mod Explained
