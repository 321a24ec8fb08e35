-- Wrong tokens, and when they are answered. Moments are milliseconds of one clock.
use Rattle.std.specs.Prelude.{ℕ, ◌+◌, ◌*◌, min, max, nat_le, Option, Some, None, option_map, unwrap_or, if◌then◌else◌}
use Rattle.desk_http.specs.declared.guesses.Guesses.{Guesses}

-- none came yet
abbrev pub no_guesses : Guesses
no_guesses = record { count = 0; came = 0; due = 0; hold = 0 }

-- a moment so much later, or the last one that is told
abbrev pub later : ℕ → ℕ → ℕ
later moment by = min (moment + by) 18446744073709551615

-- how long an answer is held back now: not at all where no wrong token came for ten seconds
abbrev pub hold_now : Guesses → ℕ → ℕ
hold_now guesses now = if nat_le (later guesses.came 10000) now then 0 else guesses.hold

-- the next one is held back twice as long: 100 ms, 200 ms and so on, up to five seconds
abbrev pub next_hold : ℕ → ℕ
next_hold hold = min (max (2 * hold) 100) 5000

-- when an answer could be given: so much later, and at least 100 ms behind the last one
abbrev pub slot : Guesses → ℕ → ℕ
slot guesses now = max (later now (hold_now guesses now)) (later guesses.due 100)

-- where that is within five seconds it is given then, and else not at all
abbrev pub given_at : ℕ → ℕ → Option ℕ
given_at slot now = if nat_le slot (later now 5000) then Some slot else None

-- when a wrong token that comes now is answered
abbrev pub answer_at : Guesses → ℕ → Option ℕ
answer_at guesses now = given_at (slot guesses now) now

-- a wrong token came now
abbrev pub guessed : Guesses → ℕ → Guesses
guessed guesses now =
    record {
      count = later guesses.count 1;
      came = now;
      due = unwrap_or (answer_at guesses now) guesses.due;
      hold = next_hold (hold_now guesses now);
    }
