pub mod FirstLine
mod Legs
mod SoFar
mod LegsSoFar
pub mod EventsSoFar
mod Venues
mod Lost
mod Goes
mod Names
mod Printable
