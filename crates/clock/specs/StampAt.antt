-- The stamp of an instant.
use Rattle.std.specs.Prelude.{◌≡◌, ◌/◌, ℤ, pos, ◌<ℤ◌, Option, MatchOption, unwrap_or}
use Rattle.jiff.specs.Types.{DateTime}
use Rattle.jiff.specs.Words.{civil_nanos}
use Rattle.fix_tags.specs.Stamp.{StampParts}

-- the stamp has the date and the time of day, cut to whole milliseconds
pub record Shows (at : DateTime) (s : StampParts) : Type 0 where
  pub year : at.date.year ≡ pos s.year
  pub month : at.date.month ≡ s.month
  pub day : at.date.day ≡ s.day
  pub hour : at.time.hour ≡ s.hour
  pub minute : at.time.minute ≡ s.minute
  pub second : at.time.second ≡ s.second
  pub milli : at.time.subsec_nanosecond / 1_000_000 ≡ s.milli

-- the stamp of the instant so many nanoseconds after 1970-01-01T00:00:00 in UTC: none where the year is below 0
abbrev pub IsStampAt : ℤ → Option StampParts → Type 0
IsStampAt nanos stamp =
    (at : DateTime) × (civil_nanos at ≡ nanos) × MatchOption stamp (at.date.year <ℤ pos 0) (Shows at)

-- what a clock tells first
abbrev pub first_stamp : StampParts
first_stamp = record { year = 1970; month = 1; day = 1; hour = 0; minute = 0; second = 0; milli = 0 }

-- what a clock tells of an instant: its stamp, or the last one again where it has none
abbrev pub IsToldOf : ℤ → StampParts → StampParts → Type 0
IsToldOf nanos last told = (stamp : Option StampParts) × IsStampAt nanos stamp × (told ≡ unwrap_or stamp last)
