-- That no frame goes out before its line is kept, and worked cases.
use Rattle.std.specs.Prelude.{◌≡◌, ℕ, Bool, true, false, List, [], ◌∷◌, ◌++◌, nat_eq, codes}
use Rattle.std.specs.List.{flat_map, starts_with}
use Rattle.kept_link.specs.Keeping.{Moment, Stands, Extends, AreNext, IsKeptFirst, after_all, are_allowed, at_first}
use Rattle.kept_link.specs.Keeping.Moment.{Tells, Keeps, Takes}

-- whatever happens in this order, and however far it has come: what went out is of lines that are kept
abbrev pub NoFrameGoesFirst : Type 0
NoFrameGoesFirst = (bytes_of : List (List ℕ) → List ℕ) (moments : List Moment) (before : Stands) → Extends bytes_of
    → IsKeptFirst bytes_of before → are_allowed moments before ≡ true → AreNext bytes_of moments before
    → IsKeptFirst bytes_of (after_all moments before)

-- of the worked cases, in which a line stands for its own bytes and an end

abbrev pub own_bytes : List (List ℕ) → List ℕ
own_bytes lines = flat_map (λ line. line ++ 124 ∷ []) lines

-- whether the link took no more than the kept lines stand for, and the same
abbrev pub is_kept_first : Stands → Bool
is_kept_first s = starts_with nat_eq (own_bytes s.kept) s.taken

-- two lines, kept together, and then their bytes, in two writes
abbrev pub in_order : List Moment
in_order = Tells (codes "A") ∷ Tells (codes "B") ∷ Keeps ∷ Takes (codes "A|") ∷ Takes (codes "B|") ∷ []

-- the same where the second line isn't kept yet
abbrev pub too_early : List Moment
too_early = Tells (codes "A") ∷ Keeps ∷ Tells (codes "B") ∷ Takes (codes "A|B|") ∷ []

-- a write that the link took in part, and what comes when it goes on; a line that stands for no bytes may wait
abbrev pub in_parts : List Moment
in_parts = Tells (codes "AB") ∷ Keeps ∷ Takes (codes "A") ∷ Takes (codes "B|") ∷ Tells (codes "C") ∷ []

abbrev pub IsInOrder : Type 0
IsInOrder = (are_allowed in_order at_first ≡ true) × (is_kept_first (after_all in_order at_first) ≡ true)

abbrev pub IsTooEarly : Type 0
IsTooEarly = (are_allowed too_early at_first ≡ false) × (is_kept_first (after_all too_early at_first) ≡ false)

abbrev pub IsInParts : Type 0
IsInParts = (are_allowed in_parts at_first ≡ true) × (is_kept_first (after_all in_parts at_first) ≡ true)
