-- What a link over TCP tells of its bytes: how its traffic is kept, and what each call makes of it.
use Rattle.std.specs.Prelude.{ℕ, Bool, true, false, List, [], ◌∷◌, ◌++◌, refl}
use Rattle.std.specs.Coded.{Coded, code_by, coded×, coded_ℕ, coded_list}
use Rattle.link.specs.Traffic.{Traffic}

-- what ghost data of this type is kept as
abbrev pub traffic_coded : Coded (List Traffic)
traffic_coded = coded_list
    (code_by (List ℕ × List ℕ) (coded× (coded_list coded_ℕ) (coded_list coded_ℕ)) (λ t. (t.written, t.read))
    (λ p. record { written = p.0; read = p.1 }) (λ t. refl))

-- a new connection stands before the others
abbrev pub begun : List Traffic → List Traffic
begun w = record { written = []; read = [] } ∷ w

-- the last connection took these bytes behind the others
abbrev pub with_written : List ℕ → List Traffic → List Traffic
with_written bytes [] = []
with_written bytes (t ∷ ts) = record { written = t.written ++ bytes; read = t.read } ∷ ts

-- it gave these bytes behind the others
abbrev pub with_read : List ℕ → List Traffic → List Traffic
with_read bytes [] = []
with_read bytes (t ∷ ts) = record { written = t.written; read = t.read ++ bytes } ∷ ts

-- whether a connection was ever dialled
abbrev pub is_begun : List Traffic → Bool
is_begun [] = false
is_begun (t ∷ ts) = true
