-- What a client said in a turn.
use Rattle.std.specs.Prelude.{ℕ, ◌≤◌, List, length}
use Rattle.exchange_sim.specs.declared.stream.Heard.{Heard}
use Rattle.exchange_sim.specs.declared.stream.Heard.TheVariants.{Bytes, Nothing, Gone}

-- bytes that were heard are within the buffer
abbrev pub FitsIn : List ℕ → Heard → Type 0
FitsIn buf (Bytes count) = count ≤ length buf
FitsIn buf Nothing = Unit {0}
FitsIn buf Gone = Unit {0}
