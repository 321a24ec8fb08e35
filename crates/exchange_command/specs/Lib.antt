pub mod ExchangeOption
pub mod Fault
pub mod Options
pub mod ExchangePlan
pub mod ExchangeText
pub mod Running
