-- Steps one after another, of which the first fault is the answer.
use Rattle.std.specs.Prelude.{Bool, true, false, Result, Ok, Err}

-- the next step, where this one met no fault
infixl 10 ◌>>=◌
abbrev pub ◌>>=◌ : {F A B : Type 0} → Result A F → (A → Result B F) → Result B F
(Ok x) >>= f = f x
(Err fault) >>= f = Err fault

-- the fault, unless a test holds
abbrev pub unless : {F : Type 0} → Bool → F → Result (Unit {0}) F
unless true fault = Ok tt
unless false fault = Err fault
