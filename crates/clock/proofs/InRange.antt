-- The fields of a civil time are in the ranges of a stamp.
use Rattle.std.proofs.Common.{◌≡◌, ℕ, ◌≤◌, ◌/◌, ℤ, pos, Some, arith}
use Rattle.std.proofs.lemmas.Bool.Decides.{nat_tests}
use Rattle.std.proofs.lemmas.Int.{ints}
use Rattle.jiff.specs.Words.{days_in_month}
use Rattle.jiff.specs.Types.{DateTime}
use Rattle.fix_tags.specs.Stamp.{StampParts, IsStamp, stamp_of}

-- the stamp of a civil time from the year 0 on
abbrev pub stamp_at_year : DateTime → ℕ → StampParts
stamp_at_year at year = record {
  year = year;
  month = at.date.month;
  day = at.date.day;
  hour = at.time.hour;
  minute = at.time.minute;
  second = at.time.second;
  milli = at.time.subsec_nanosecond / 1_000_000;
}

month_bound : (year : ℤ) (month : ℕ) → days_in_month year month ≤ 31
month_bound year month = grind (arith, nat_tests)

stamp_of-is : (s : StampParts) → IsStamp s → stamp_of s.year s.month s.day s.hour s.minute s.second s.milli ≡ Some s
stamp_of-is s h = grind (arith, nat_tests)

in_range : (at : DateTime) (year : ℕ) → at.date.year ≡ pos year → IsStamp (stamp_at_year at year)
in_range at year is = record {
  year = omega (arith, ints, is, at.date.year_in);
  month_from = omega (arith, at.date.month_in);
  month = omega (arith, at.date.month_in);
  day_from = omega (arith, at.date.day_in);
  day = omega (arith, at.date.day_in, month_bound at.date.year at.date.month);
  hour = omega (arith, at.time.hour_in);
  minute = omega (arith, at.time.minute_in);
  second = omega (arith, at.time.second_in);
  milli = omega (arith, at.time.subsec_in);
}

pub stamp_of-civil : (at : DateTime) (year : ℕ) → at.date.year ≡ pos year
    → stamp_of year at.date.month at.date.day at.time.hour at.time.minute at.time.second (at.time.subsec_nanosecond / 1_000_000) ≡ Some (stamp_at_year at year)
stamp_of-civil at year is = stamp_of-is (stamp_at_year at year) (in_range at year is)
