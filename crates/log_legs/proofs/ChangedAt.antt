-- An order at a place is changed.
use Rattle.std.proofs.Common.{◌≡◌, ℕ, zero, suc, ◌<◌, ◌≤◌, List, [], ◌∷◌, length, get_or, set, refl, ap, arith}
use Rattle.log_legs.specs.KeptLeg.{LegParts}
use Rattle.log_legs.specs.Legs.{leg_changed}

-- what is written at its place is what is made of it
pub set_is_changed : (change : LegParts → LegParts) (place : ℕ) (legs : List LegParts) (leg : LegParts)
    → place < length legs → leg ≡ get_or legs place leg → set legs place (change leg) ≡ leg_changed change place legs
set_is_changed change place [] leg within at_place = absurd (omega arith)
set_is_changed change zero (x ∷ xs) leg within at_place = ap (λ p. change p ∷ xs) at_place
set_is_changed change (suc place) (x ∷ xs) leg within at_place =
    ap (λ rest. x ∷ rest) (set_is_changed change place xs leg (omega arith) at_place)

-- at a place behind the last one none is
pub none_changed : (change : LegParts → LegParts) (place : ℕ) (legs : List LegParts) → length legs ≤ place
    → leg_changed change place legs ≡ legs
none_changed change place [] behind = refl
none_changed change zero (x ∷ xs) behind = absurd (omega arith)
none_changed change (suc place) (x ∷ xs) behind =
    ap (λ rest. x ∷ rest) (none_changed change place xs (omega arith))
