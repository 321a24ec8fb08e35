pub mod RunTheorem
