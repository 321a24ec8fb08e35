-- The legs released to a venue (17 CFR 242.600(b): the orders of a sweep are routed simultaneously; here they are
-- released in one step).
use Rattle.std.specs.Prelude.{ℕ, suc, List, [], ◌∷◌, ◌++◌, ◌==◌, if◌then◌else◌}
use Rattle.leg.specs.declared.leg.Leg.{Leg}
use Rattle.leg.specs.declared.sweep.Routed.{Routed}

-- the legs of a sweep to a venue, the first of these orders having this place
abbrev pub legs_to : ℕ → ℕ → ℕ → List Routed → List Leg
legs_to venue number place [] = []
legs_to venue number place (routed ∷ legs) =
    if routed.venue == venue
    then record { id = record { sweep = number; place = place }; terms = routed.terms }
    ∷ legs_to venue number (suc place) legs
    else legs_to venue number (suc place) legs

-- the legs of these sweeps to a venue, the first of them having this number
abbrev pub released_from : ℕ → ℕ → List (List Routed) → List Leg
released_from venue number [] = []
released_from venue number (legs ∷ sweeps) = legs_to venue number 1 legs ++ released_from venue (suc number) sweeps

-- the released legs of a venue: by the sweep's number, from 1, then by the place, from 1
abbrev pub released : ℕ → List (List Routed) → List Leg
released venue sweeps = released_from venue 1 sweeps
