-- The legs of values, read one after the other.
use Rattle.std.proofs.Common.{◌≡◌, ℕ, ◌+◌, ◌<◌, ◌≤◌, List, [], ◌∷◌, ◌++◌, refl, sym, ap, ◌∙◌, append_assoc, length, drop, get_or}
use Rattle.std.proofs.lemmas.List.{append-nil, drop_more}
use Rattle.std.specs.Prelude.{Result, Ok, Err}
use Rattle.serde_json.specs.View.{items_view, view}
use Rattle.serde_json.specs.declared.value.Value.{Value}
use Rattle.leg.specs.declared.sweep.Routed.{Routed}
use Rattle.sweep_text.specs.Legs.{and_then}
use Rattle.desk_json.specs.Leg.{leg_in}
use Rattle.desk_json.specs.Sweep.{leg_at, leg_before, legs_in}
use Rattle.desk_json.specs.declared.key_fault.KeyFault.{KeyFault}
use Rattle.desk_json.specs.declared.sweep_fault.SweepFault.{SweepFault}
use Rattle.desk_json.specs.declared.sweep_fault.SweepFault.TheVariants.{Leg}

-- the legs that were read, and those that are left
abbrev pub onto : List Routed → Result (List Routed) SweepFault → Result (List Routed) SweepFault
onto front left = and_then left (λ later. Ok (front ++ later))

-- no leg is left
pub onto_none : (front : List Routed) → onto front (Ok []) ≡ Ok front
onto_none front = ap Ok (append-nil front)

-- one more leg was read
pub onto_more : (front : List Routed) (leg : Routed) (left : Result (List Routed) SweepFault)
    → onto front (leg_before (Ok leg) left) ≡ onto (front ++ leg ∷ []) left
onto_more front leg (Ok later) = ap Ok (sym (append_assoc front (leg ∷ []) later))
onto_more front leg (Err fault) = refl

-- the legs of values from a place on
abbrev pub left_at : List (List ℕ) → List Value → ℕ → Result (List Routed) SweepFault
left_at names values i = legs_in names (i + 1) (items_view (drop i values))

-- the leg at a place, and those behind it
pub left_more : (names : List (List ℕ)) (values : List Value) (i : ℕ) (value : Value) → i < length values
    → left_at names values i
    ≡ leg_before (leg_at (i + 1) (leg_in names (view (get_or values i value)))) (left_at names values (i + 1))
left_more names values i value within =
    ap (λ rest. legs_in names (i + 1) (items_view rest)) (drop_more values i value within)

-- a leg is read, and those behind it are left
pub one_leg : (names : List (List ℕ)) (values : List Value) (i : ℕ) (value : Value) (leg : Routed)
    (front : List Routed) → i < length values → value ≡ get_or values i value
    → leg_in names (view value) ≡ Ok leg
    → onto front (left_at names values i) ≡ onto (front ++ leg ∷ []) (left_at names values (i + 1))
one_leg names values i value leg front within is read =
    ap (onto front) (left_more names values i value within)
    ∙ ap (λ v. onto front (leg_before (leg_at (i + 1) (leg_in names (view v))) (left_at names values (i + 1)))) (sym is)
    ∙ ap (λ r. onto front (leg_before (leg_at (i + 1) r) (left_at names values (i + 1)))) read
    ∙ onto_more front leg (left_at names values (i + 1))

-- a leg has a fault
pub one_fault : (names : List (List ℕ)) (values : List Value) (i : ℕ) (value : Value) (fault : KeyFault)
    (front : List Routed) → i < length values → value ≡ get_or values i value
    → leg_in names (view value) ≡ Err fault
    → onto front (left_at names values i) ≡ Err (Leg (i + 1) fault)
one_fault names values i value fault front within is read =
    ap (onto front) (left_more names values i value within)
    ∙ ap (λ v. onto front (leg_before (leg_at (i + 1) (leg_in names (view v))) (left_at names values (i + 1)))) (sym is)
    ∙ ap (λ r. onto front (leg_before (leg_at (i + 1) r) (left_at names values (i + 1)))) read

pub ruleset steps = (one_leg, one_fault, onto_none)
