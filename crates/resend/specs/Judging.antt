-- How a received number stands to the one that is expected (FIX 4.4 Volume 2, "Ordered Message Processing").
use Rattle.std.specs.Prelude.{ℕ, Bool, ◌==◌, nat_lt, if◌then◌else◌}
use Rattle.resend.specs.declared.judged.Judged.{Judged}
use Rattle.resend.specs.declared.judged.Judged.TheVariants.{Due, Ahead, Repeat, TooLow}

-- `poss_dup` is the message's PossDupFlag (43)
abbrev pub judged : ℕ → ℕ → Bool → Judged
judged expected number poss_dup =
    if number == expected then Due
    else (if nat_lt expected number then Ahead
    else (if poss_dup then Repeat else TooLow))
