-- What becomes of an output's bytes.
use Rattle.std.specs.Prelude.{ℕ, List, Option}
use Rattle.std.specs.Io.KnownBytes.{Appends}

-- known bytes stay, and more may come behind them
abbrev pub Grows : Option (List ℕ) → Option (List ℕ) → Type 0
Grows before after = (more : List ℕ) × Appends before after more
