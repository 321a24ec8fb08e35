-- The exit status of a run.
use Rattle.std.specs.Prelude.{ℕ, Result, Ok, Err}

-- the status of a run: 0, or that of its fault
abbrev pub exit_status : {F : Type 0} → (F → ℕ) → {A : Type 0} → Result A F → ℕ
exit_status status_of (Ok done) = 0
exit_status status_of (Err fault) = status_of fault
