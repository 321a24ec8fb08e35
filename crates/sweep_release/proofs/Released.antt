-- The released legs of a venue, once one more sweep is released.
use Rattle.std.proofs.Common.{◌≡◌, ℕ, suc, ◌+◌, Bool, true, false, List, [], ◌∷◌, ◌++◌, length, refl, ap, sym, ◌∙◌, arith, if◌then◌else◌}
use Rattle.std.specs.Prelude.{◌==◌}
use Rattle.std.proofs.lemmas.List.{append_assoc, append-nil, length-append}
use Rattle.leg.specs.declared.leg.Leg.{Leg}
use Rattle.leg.specs.declared.sweep.Routed.{Routed}
use Rattle.sweep_release.specs.Released.{legs_to, released_from, released}
use Rattle.sweep_release.specs.Desk.{count_to}

released_from-append : (venue number : ℕ) (xs ys : List (List Routed)) → released_from venue number (xs ++ ys) ≡ released_from venue number xs ++ released_from venue (number + length xs) ys
released_from-append venue number [] ys = let same : number ≡ number + 0 = omega arith in ap (λ n. released_from venue n ys) same
released_from-append venue number (legs ∷ xs) ys =
    let same : suc number + length xs ≡ number + suc (length xs) = omega arith in
    ap (λ l. legs_to venue number 1 legs ++ l) (released_from-append venue (suc number) xs ys)
    ∙ (sym (append_assoc (legs_to venue number 1 legs) (released_from venue (suc number) xs) (released_from venue (suc number + length xs) ys))
    ∙ ap (λ n. (legs_to venue number 1 legs ++ released_from venue (suc number) xs) ++ released_from venue n ys) same)

-- the new sweep's legs come behind
pub released-push : (venue : ℕ) (sweeps : List (List Routed)) (legs : List Routed) → released venue (sweeps ++ legs ∷ []) ≡ released venue sweeps ++ legs_to venue (length sweeps + 1) 1 legs
released-push venue sweeps legs =
    let number : 1 + length sweeps ≡ length sweeps + 1 = omega arith in
    released_from-append venue 1 sweeps (legs ∷ [])
    ∙ (ap (λ l. released venue sweeps ++ l) (append-nil (legs_to venue (1 + length sweeps) 1 legs))
    ∙ ap (λ n. released venue sweeps ++ legs_to venue n 1 legs) number)

counted : (b : Bool) (leg : Leg) (legs : List Leg) (n : ℕ) → length legs ≡ n → length (if b then leg ∷ legs else legs) ≡ (if b then suc n else n)
counted true leg legs n e = ap suc e
counted false leg legs n e = e

pub length-legs_to : (venue number place : ℕ) (legs : List Routed) → length (legs_to venue number place legs) ≡ count_to venue legs
length-legs_to venue number place [] = refl
length-legs_to venue number place (routed ∷ legs) =
    counted (routed.venue == venue) (record { id = record { sweep = number; place = place }; terms = routed.terms })
    (legs_to venue number (suc place) legs) (count_to venue legs) (length-legs_to venue number (suc place) legs)

pub length-released-push : (venue : ℕ) (sweeps : List (List Routed)) (legs : List Routed) → length (released venue (sweeps ++ legs ∷ [])) ≡ length (released venue sweeps) + count_to venue legs
length-released-push venue sweeps legs =
    ap length (released-push venue sweeps legs)
    ∙ (length-append (released venue sweeps) (legs_to venue (length sweeps + 1) 1 legs)
    ∙ ap (λ n. length (released venue sweeps) + n) (length-legs_to venue (length sweeps + 1) 1 legs))
