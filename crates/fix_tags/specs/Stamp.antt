-- A time stamp in UTC (FIX 4.4 Volume 1, data type UTCTimestamp).
use Rattle.std.specs.Prelude.{ℕ, ◌≤◌, Bool, ◌&&◌, ◌||◌, List, ◌∷◌, ◌++◌, length, take, drop, Option, Some, None, slice_index, ◌==◌, nat_lt, nat_le, if◌then◌else◌}
use Rattle.fix_tags.specs.Digits.{number_in, two_digits, three_digits, four_digits}

-- the fields of a stamp
pub record StampParts : Type 0 where
  pub year : ℕ
  pub month : ℕ
  pub day : ℕ
  pub hour : ℕ
  pub minute : ℕ
  pub second : ℕ
  pub milli : ℕ

-- each field is in its range; the 60th second is a leap second, and the day isn't compared with the month
pub record IsStamp (s : StampParts) : Type 0 where
  pub year : s.year ≤ 9999
  pub month_from : 1 ≤ s.month
  pub month : s.month ≤ 12
  pub day_from : 1 ≤ s.day
  pub day : s.day ≤ 31
  pub hour : s.hour ≤ 23
  pub minute : s.minute ≤ 59
  pub second : s.second ≤ 60
  pub milli : s.milli ≤ 999

-- whether each field is in its range
abbrev pub is_stamp : StampParts → Bool
is_stamp s =
    nat_le s.year 9999 && nat_le 1 s.month && nat_le s.month 12 && nat_le 1 s.day && nat_le s.day 31
    && nat_le s.hour 23 && nat_le s.minute 59 && nat_le s.second 60 && nat_le s.milli 999

-- the stamp of these fields, where each is in its range
abbrev pub stamp_of : ℕ → ℕ → ℕ → ℕ → ℕ → ℕ → ℕ → Option StampParts
stamp_of year month day hour minute second milli =
    let s : StampParts =
    record { year = year; month = month; day = day; hour = hour; minute = minute; second = second; milli = milli } in
    if is_stamp s then Some s else None

-- what is written: YYYYMMDD-HH:MM:SS.sss
unfoldable pub stamp_text : StampParts → List ℕ
stamp_text s =
    four_digits s.year ++ two_digits s.month ++ two_digits s.day ++ 45 ∷ two_digits s.hour
    ++ 58 ∷ two_digits s.minute ++ 58 ∷ two_digits s.second ++ 46 ∷ three_digits s.milli

-- the number that so many digits write from a place of the text on, where they are digits
abbrev pub number_at : List ℕ → ℕ → ℕ → Option ℕ
number_at text at count = number_in (take count (drop at text))

-- the length of YYYYMMDD-HH:MM:SS or of YYYYMMDD-HH:MM:SS.sss, with each separator at its place
abbrev pub has_separators : List ℕ → Bool
has_separators text =
    (length text == 17 || (length text == 21 && (slice_index text 17 == 46)))
    && (slice_index text 8 == 45) && (slice_index text 11 == 58) && (slice_index text 14 == 58)

-- the milliseconds, which are 0 where they are left out
abbrev pub milli_of : List ℕ → Option ℕ
milli_of text = if nat_lt (length text) 21 then Some 0 else number_at text 18 3

-- the stamp of fields that were read one after the other, where each one was
abbrev pub stamp_with : Option ℕ → Option ℕ → Option ℕ → Option ℕ → Option ℕ → Option ℕ → Option ℕ → Option StampParts
stamp_with (Some year) (Some month) (Some day) (Some hour) (Some minute) (Some second) (Some milli) =
    stamp_of year month day hour minute second milli
stamp_with _ _ _ _ _ _ _ = None

-- what is read: YYYYMMDD-HH:MM:SS, with or without .sss, with each field in its range
unfoldable pub stamp_read : List ℕ → Option StampParts
stamp_read text =
    if has_separators text
    then stamp_with (number_at text 0 4) (number_at text 4 2) (number_at text 6 2) (number_at text 9 2)
    (number_at text 12 2) (number_at text 15 2) (milli_of text)
    else None
