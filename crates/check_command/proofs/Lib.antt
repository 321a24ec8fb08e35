pub mod LogsRead
pub mod DayJudged
