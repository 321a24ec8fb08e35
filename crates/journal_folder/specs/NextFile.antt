-- The number of the file that is begun next.
use Rattle.std.specs.Prelude.{◌≡◌, ◌<◌, ℕ, ◌+◌, ◌-◌, ◌^◌, min}

-- the number behind that of a file, up to the greatest
abbrev pub next_number : ℕ → ℕ
next_number file = min (file + 1) (2 ^ 64 - 1)

-- once lines are kept in a file, the next one has the number behind it; until then it is this file again. So no file
-- that has kept lines is made again
pub record IsNextFile (number file start kept : ℕ) : Type 0 where
  pub past : start < kept → number ≡ next_number file
  pub here : start ≡ kept → number ≡ file
