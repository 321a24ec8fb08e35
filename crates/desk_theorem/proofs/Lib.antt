pub mod DeskDay
pub mod DayOver
