-- What a link tells of the bytes that went over it.
use Rattle.std.specs.Prelude.{◌≡◌, ◌<◌, List, ℕ, [], ◌∷◌, ◌++◌, length, take, Option, Some, None}
use mathlib.Core.List.{IsPrefix}
use Rattle.link.specs.declared.got.Got.{Got}
use Rattle.link.specs.declared.got.Got.TheVariants.{Bytes, Nothing, End}

-- of one connection, the bytes that writes took and those that reads gave
pub record Traffic : Type 0 where
  pub written : List ℕ
  pub read : List ℕ

-- a link tells its traffic always or never; what it told before a call stands so to what it tells after it
abbrev pub Tells : Option (List Traffic) → Option (List Traffic) → (List Traffic → List Traffic → Type 0) → Type 0
Tells None None R = Unit {0}
Tells None (Some v) R = ⊥
Tells (Some w) None R = ⊥
Tells (Some w) (Some v) R = R w v

-- nothing went over the link
abbrev pub Stays : List Traffic → List Traffic → Type 0
Stays w v = v ≡ w

-- a new connection stands before the others
abbrev pub Dials : List Traffic → List Traffic → Type 0
Dials w v = v ≡ record { written = []; read = [] } ∷ w

-- the last connection took these bytes behind the others; where none was dialled yet there are none to take
abbrev pub Takes : List ℕ → List Traffic → List Traffic → Type 0
Takes bytes [] v = (bytes ≡ []) × (v ≡ [])
Takes bytes (t ∷ ts) v = v ≡ record { written = t.written ++ bytes; read = t.read } ∷ ts

-- it took the first of these bytes, and not all
abbrev pub TakesPart : List ℕ → List Traffic → List Traffic → Type 0
TakesPart bytes w v = (part : List ℕ) × IsPrefix part bytes × (length part < length bytes) × Takes part w v

-- it gave these bytes behind the others
abbrev pub GivesBytes : List ℕ → List Traffic → List Traffic → Type 0
GivesBytes bytes [] v = (bytes ≡ []) × (v ≡ [])
GivesBytes bytes (t ∷ ts) v = v ≡ record { written = t.written; read = t.read ++ bytes } ∷ ts

-- what a read gave, of the bytes that it left in the buffer
abbrev pub Gives : Got → List ℕ → List Traffic → List Traffic → Type 0
Gives (Bytes n) buf w v = GivesBytes (take n buf) w v
Gives Nothing buf w v = Stays w v
Gives End buf w v = Stays w v
