-- When a message was logged, and how long it is to a later moment.
use Rattle.std.specs.Prelude.{ℕ, ◌+◌, ◌-◌, ◌*◌, ◌==◌, nat_lt, if◌then◌else◌}
use Rattle.fix_tags.specs.Stamp.{StampParts}
use Rattle.log_rules.specs.declared.moment.Moment.{Moment}

-- the moment of a stamp
abbrev pub moment_of : StampParts → Moment
moment_of s = record {
  day = (s.year * 12 + s.month) * 31 + s.day;
  milli = ((s.hour * 60 + s.minute) * 60 + s.second) * 1000 + s.milli;
}

-- the milliseconds from a moment to a later one, over midnight too; none where the clock went back, or for a day or
-- more
abbrev pub elapsed : Moment → Moment → ℕ
elapsed from to =
    if from.day == to.day then to.milli - from.milli
    else (if nat_lt to.milli from.milli then 86400000 - (from.milli - to.milli) else 0)
