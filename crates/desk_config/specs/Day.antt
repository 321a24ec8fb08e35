-- A day in UTC.
use Rattle.std.specs.Prelude.{ℕ, ◌/◌, ◌%◌, List, ◌++◌, codes, decimal}
use Rattle.fix_tags.specs.Stamp.{StampParts}
use Rattle.desk_config.specs.declared.day.Day.{Day}

-- the day of a moment
abbrev pub day_of : StampParts → Day
day_of moment = record { year = moment.year; month = moment.month; day = moment.day }

-- the last two digits of a number
abbrev pub two_digits : ℕ → List ℕ
two_digits n = decimal (n / 10 % 10) ++ decimal (n % 10)

-- a day as it is printed, as `2026-11-24`
abbrev pub day_text : Day → List ℕ
day_text day =
    two_digits (day.year / 100) ++ two_digits day.year ++ codes "-" ++ two_digits day.month ++ codes "-"
    ++ two_digits day.day
