-- What a call answers, where it may want memory.
use Rattle.std.specs.Prelude.{◌≡◌, Result, Ok, Err}

-- the definition's answer and the state after it; or out of memory, where the answer would have been Ok, and the state
-- as it was
abbrev pub Answers : {X F S : Type 0} → F → S → Result X F × S → Result X F → S → Type 0
Answers wanting before (Err fault, after) answer now = (answer ≡ Err fault) × (now ≡ after)
Answers wanting before (Ok x, after) (Ok y) now = (y ≡ x) × (now ≡ after)
Answers wanting before (Ok x, after) (Err fault) now = (fault ≡ wanting) × (now ≡ before)
