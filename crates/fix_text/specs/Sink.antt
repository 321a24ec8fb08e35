-- What is told of fields that are pushed to a list, or to the body of a frame.
use Rattle.std.specs.Prelude.{◌≡◌, ℕ, List, ◌++◌, length, Option, Some, None, Result, MatchResult, nat_le, if◌then◌else◌}
use Rattle.std.specs.declared.alloc.AllocError.{AllocError}
use Rattle.fix_text.specs.Tagged.{Tagged}
use Rattle.fix_text.specs.Text.{fields_text}

-- how a sink tells which fields it took: new is old with these fields behind it
abbrev pub TakingOf : Type 0 → Type 1
TakingOf S = S → S → List Tagged → Type 0

-- new is old with some fields behind it
abbrev pub Grows : {S : Type 0} → TakingOf S → S → S → Type 0
Grows Takes old new = (more : List Tagged) × Takes old new more

-- what a call says that pushes these fields: all of them are taken, or some fields where it is refused memory
abbrev pub Pushes : {S : Type 0} → TakingOf S → List Tagged → S → S → Result (Unit {0}) AllocError → Type 0
Pushes Takes fields old new result = MatchResult result (λ _. Takes old new fields) (λ _. Grows Takes old new)

-- a text, as long as it is at most 1,152 bytes
abbrev pub if_short : List ℕ → Option (List ℕ)
if_short text = if nat_le (length text) 1152 then Some text else None

-- the body of these fields
abbrev pub body_of : List Tagged → Option (List ℕ)
body_of fields = if_short (fields_text fields)

-- new is the body of the fields of old and of these behind them
abbrev pub TakesFields : TakingOf (Option (List ℕ))
TakesFields old new more = (fields : List Tagged) → old ≡ body_of fields → new ≡ body_of (fields ++ more)
