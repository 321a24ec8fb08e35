-- How many bytes a call moves, and how faults are counted.
use Rattle.std.specs.Prelude.{ℕ, ◌+◌, ◌<◌, ◌≤◌, min, Result, Ok, Err}
use Rattle.link.specs.declared.got.Got.{Got}
use Rattle.link.specs.declared.got.Got.TheVariants.{Bytes, Nothing, End}

-- a read that gives bytes gives one at least, and no more than its buffer has room for
abbrev pub Fits : Got → ℕ → Type 0
Fits (Bytes n) room = (0 < n) × (n ≤ room)
Fits Nothing room = Unit {0}
Fits End room = Unit {0}

-- so many of all, and one at least where there is one
abbrev pub IsSomeOf : ℕ → ℕ → Type 0
IsSomeOf n all = (n ≤ all) × (0 < all → 0 < n)

-- the count of faults: a call that answers one has raised it, or it stands at its last value
abbrev pub Rises : {T E : Type 0} → Result T E → ℕ → ℕ → Type 0
Rises (Ok x) before after = before ≤ after
Rises (Err e) before after = min (before + 1) 18446744073709551615 ≤ after
