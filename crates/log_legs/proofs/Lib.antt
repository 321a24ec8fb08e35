pub mod ChangedAt
pub mod OneMore
