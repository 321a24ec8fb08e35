-- Lemmas: a leg's number in Plain is read from its one spelling, and from nothing else.
use Rattle.std.proofs.Common.{◌≡◌, ◌==◌, ℕ, ◌^◌, ◌<◌, Bool, true, false, cond, List, [], ◌∷◌, ◌++◌, codes, decimal, Option, Some, None, refl, sym, ap, ap₂, subst, ◌∙◌, arith, append_assoc}
use Rattle.std.proofs.lemmas.Bool.{eqb-true}
use Rattle.std.proofs.lemmas.Bool.Decides.{nat_tests}
use Rattle.std.proofs.lemmas.Option.{option_and_then_some, same_Some}
use Rattle.leg.specs.LegId.{LegIdParts, IsLegId, leg_id_text}
use Rattle.leg.proofs.Digits.{digits_of_decimal}
use Rattle.dialect.specs.Split.{parts_round}
use Rattle.dialect.specs.Lemmas.SplitLaws.{HasNo, parts_round-joined, parts_round-Some}
use Rattle.dialect.specs.Ordinal.{ordinal_of}
use Rattle.dialect.specs.Lemmas.OrdinalLaws.{ordinal_of-decimal, ordinal_of-Some}
use Rattle.dialect.specs.Plain.{numbers_of, plain_id_of}

no_letter : (n : ℕ) → n < 2 ^ 64 → HasNo 76 (decimal n)
no_letter n small = λ k d within. let digit = digits_of_decimal n small k d within in grind (arith, nat_tests)

numbers_of-joined : (id : LegIdParts) → IsLegId id → numbers_of (decimal id.sweep ++ 76 ∷ decimal id.place) ≡ Some id
numbers_of-joined id range =
    rw (
      parts_round-joined 76 (decimal id.sweep) (decimal id.place) (no_letter id.sweep (omega arith)),
      ordinal_of-decimal 999_999_999_999 id.sweep range.sweep_low range.sweep_high (omega arith),
      ordinal_of-decimal 32 id.place range.place_low range.place_high (omega arith),
    ) refl

-- what is written is read back
pub plain_id_of-text : (id : LegIdParts) → IsLegId id → plain_id_of (leg_id_text id) ≡ Some id
unfolding plain_id_of
plain_id_of-text id range =
    ap plain_id_of (ap (λ text. 83 ∷ text) (append_assoc (decimal id.sweep) (codes "L") (decimal id.place)))
    ∙ numbers_of-joined id range

-- the text without its `S`
abbrev rest_text : LegIdParts → List ℕ
rest_text id = decimal id.sweep ++ 76 ∷ decimal id.place

-- a number in range, and the text without its `S`
record IsNumbers (text : List ℕ) (id : LegIdParts) : Type 0 where
  in_range : IsLegId id
  text_is : rest_text id ≡ text

numbers_of-Some : (text : List ℕ) (id : LegIdParts) → numbers_of text ≡ Some id → IsNumbers text id
numbers_of-Some text id e =
    option_and_then_some _ (parts_round 76 text) id e (λ parts round e1.
    option_and_then_some _ (ordinal_of 999_999_999_999 parts.0) id e1 (λ sweep first e2.
    option_and_then_some _ (ordinal_of 32 parts.1) id e2 (λ place second e3.
    let front = ordinal_of-Some 999_999_999_999 parts.0 sweep first in
    let back = ordinal_of-Some 32 parts.1 place second in
    let joined = parts_round-Some 76 text parts round in
    let same : decimal sweep ++ 76 ∷ decimal place ≡ text =
    ap₂ (λ xs ys. xs ++ 76 ∷ ys) front.text_is back.text_is ∙ sym joined in
    let range : IsLegId (record { sweep = sweep; place = place }) =
    record { sweep_low = front.low; sweep_high = front.high; place_low = back.low; place_high = back.high } in
    subst (IsNumbers text) (same_Some _ _ e3) (record { in_range = range; text_is = same }))))

chosen : (b : Bool) (o : Option LegIdParts) (id : LegIdParts) → cond b o None ≡ Some id → (b ≡ true) × (o ≡ Some id)
chosen true o id e = (refl, e)
chosen false o id e = cc

-- what is read is what is written
pub plain_id_of-Some : (text : List ℕ) (id : LegIdParts) → plain_id_of text ≡ Some id
    → IsLegId id × (text ≡ leg_id_text id)
unfolding plain_id_of
plain_id_of-Some [] id e = cc
plain_id_of-Some (c ∷ cs) id e =
    let parts = chosen (c == 83) (numbers_of cs) id e in
    let numbers = numbers_of-Some cs id parts.1 in
    let spelled : leg_id_text id ≡ 83 ∷ rest_text id =
    ap (λ text. 83 ∷ text) (append_assoc (decimal id.sweep) (codes "L") (decimal id.place)) in
    (numbers.in_range, sym (spelled ∙ ap₂ (λ x xs. x ∷ xs) (sym (eqb-true c 83 parts.0)) numbers.text_is))
