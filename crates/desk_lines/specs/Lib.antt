pub mod Token
pub mod User
