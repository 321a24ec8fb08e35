pub mod DeskTheorem
pub mod DeskOverLives
