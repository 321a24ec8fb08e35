-- The range of numbers that a resend request asks for (FIX 4.4 Volume 2, "Resend Request").
use Rattle.std.specs.Prelude.{ℕ, min, Bool, ◌&&◌, ◌||◌, ◌==◌, nat_le, if◌then◌else◌}

-- the last number of a range that is asked for, where 0 means all that was sent
abbrev pub range_end : ℕ → ℕ → ℕ
range_end sent last = if last == 0 then sent else min sent last

-- whether a range is one of numbers that were sent
abbrev pub is_range : ℕ → ℕ → ℕ → Bool
is_range sent begin last = nat_le 1 begin && nat_le begin sent && (last == 0 || nat_le begin last)
