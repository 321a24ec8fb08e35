-- How long a file has to be.
use Rattle.std.specs.Prelude.{ℕ, ◌-◌, ◌^◌, List, ◌∷◌, length, max, min}
use Rattle.journal_record.specs.Record.{lines_text}

-- as many bytes as the records of its head and of these lines take, and at least so many
abbrev pub room_for : ℕ → List ℕ → List (List ℕ) → ℕ
room_for least head lines = max (min (length (lines_text 0 (head ∷ lines))) (2 ^ 64 - 1)) least
