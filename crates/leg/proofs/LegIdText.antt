-- A leg's number as it is printed: its bytes, its length, and that no other leg's is the same.
use Rattle.std.proofs.Common.{◌≡◌, ◌≢◌, ◌⊎◌, ℕ, ◌<◌, ◌≤◌, ◌^◌, ◌∷◌, ◌++◌, length, inl, inr, refl, sym, ap, subst, codes, arith, append_assoc, length-append}
use Rattle.std.specs.Fmt.{decimal}
use Rattle.std.specs.List.{All}
use Rattle.std.proofs.lemmas.List.Elements.{All-cons, All-append}
use Rattle.std.proofs.lemmas.Fmt.{length-decimal-le, decimal_injective}
use Rattle.leg.specs.LegId.{LegIdParts, IsLegId, leg_id_text}
use Rattle.leg.proofs.Digits.{IsDigit, digits_of_decimal}
use Rattle.leg.proofs.Seam.{same_parts}

-- a byte is `S`, `L` or a digit
abbrev pub IsLegIdByte : ℕ → Type 0
IsLegIdByte c = (c ≡ 83) ⊎ ((c ≡ 76) ⊎ IsDigit c)

-- the text in the form that joins its parts from the right
leg_id_text-by_parts : (id : LegIdParts) → leg_id_text id ≡ 83 ∷ (decimal id.sweep ++ (76 ∷ decimal id.place))
leg_id_text-by_parts id =
    ap (λ text. 83 ∷ text) (append_assoc (decimal id.sweep) (codes "L") (decimal id.place))

digits_only : (n : ℕ) → n < 2 ^ 64 → All IsLegIdByte (decimal n)
digits_only n small = λ k d within. inr (inr (digits_of_decimal n small k d within))

no_mark : (n : ℕ) → n < 2 ^ 64 → All (λ c. c ≢ 76) (decimal n)
no_mark n small = λ k d within. let digit = digits_of_decimal n small k d within in omega arith

-- only `S`, `L` and digits
pub leg_id_bytes : (id : LegIdParts) → IsLegId id → All IsLegIdByte (leg_id_text id)
leg_id_bytes id range =
    subst (All IsLegIdByte) (sym (leg_id_text-by_parts id))
    (All-cons IsLegIdByte 83 (decimal id.sweep ++ (76 ∷ decimal id.place)) (inl refl)
    (All-append IsLegIdByte (decimal id.sweep) (76 ∷ decimal id.place) (digits_only id.sweep (omega arith))
    (All-cons IsLegIdByte 76 (decimal id.place) (inr (inl refl)) (digits_only id.place (omega arith)))))

-- at most 16 bytes
pub length-leg_id_text : (id : LegIdParts) → IsLegId id → length (leg_id_text id) ≤ 16
length-leg_id_text id range =
    let sweep : length (decimal id.sweep) ≤ 12 = length-decimal-le 12 id.sweep (omega arith) (omega arith) (omega arith) in
    let place : length (decimal id.place) ≤ 2 = length-decimal-le 2 id.place (omega arith) (omega arith) (omega arith) in
    let joined = length-append (decimal id.sweep) (76 ∷ decimal id.place) in
    subst (λ text. length text ≤ 16) (sym (leg_id_text-by_parts id)) (omega arith)

-- two legs with one text are one leg
pub leg_id_text_injective : (a b : LegIdParts) → IsLegId a → IsLegId b → leg_id_text a ≡ leg_id_text b → a ≡ b
leg_id_text_injective a b in_a in_b e =
    let joined : decimal a.sweep ++ (76 ∷ decimal a.place) ≡ decimal b.sweep ++ (76 ∷ decimal b.place) = cc (leg_id_text-by_parts a, leg_id_text-by_parts b) in
    let parts = same_parts 76 _ _ _ _ (no_mark a.sweep (omega arith)) (no_mark b.sweep (omega arith)) joined in
    let sweep : a.sweep ≡ b.sweep = decimal_injective a.sweep b.sweep (omega arith) (omega arith) parts.front in
    let place : a.place ≡ b.place = decimal_injective a.place b.place (omega arith) (omega arith) parts.back in
    λ i. record { sweep = sweep i; place = place i }
