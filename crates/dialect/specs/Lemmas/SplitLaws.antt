-- Lemmas: a text that is joined by a byte is split there again.
use Rattle.std.proofs.Common.{◌≡◌, ◌==◌, ℕ, Bool, true, false, cond, List, ◌∷◌, ◌++◌, length, get_or, Some, None, refl, sym, subst, arith, length-append}
use Rattle.std.specs.List.{All, position_or_len, before_first, after_first}
use Rattle.std.specs.Option.{option_map}
use Rattle.std.proofs.lemmas.Bool.{lt-ltb, le-ltb, eq-eqb, ltb-true, eqb-true}
use Rattle.std.proofs.lemmas.List.Sums.{position_or_len_is, split_at_first, passes_at_first}
use Rattle.std.proofs.Math.ListN.{get_or-append}
use Rattle.std.proofs.Math.Seq.{take-append_seam, drop-append-add, get_or-append_seam}
use Rattle.dialect.specs.Split.{parts_round}

-- the byte is nowhere in the text
abbrev pub HasNo : ℕ → List ℕ → Type 0
HasNo byte text = All (λ c. (c == byte) ≡ false) text

place : (byte : ℕ) (front back : List ℕ) → HasNo byte front
    → position_or_len (λ c. c == byte) (front ++ byte ∷ back) ≡ length front
place byte front back none =
    position_or_len_is
    (λ c. c == byte)
    (front ++ byte ∷ back)
    (length front)
    0
    (omega (arith, length-append front (byte ∷ back)))
    (λ k below. subst (λ c. (c == byte) ≡ false) (sym (get_or-append front (byte ∷ back) 0 k below)) (none k 0 below))
    (λ _. eq-eqb _ _ (get_or-append_seam front byte back 0))

-- where the byte joins two parts
pub parts_round-joined : (byte : ℕ) (front back : List ℕ) → HasNo byte front
    → parts_round byte (front ++ byte ∷ back) ≡ Some (front, back)
parts_round-joined byte front back none =
    let here = place byte front back none in
    let inside =
    lt-ltb (length front) (length (front ++ byte ∷ back)) (omega (arith, length-append front (byte ∷ back))) in
    rw (here, inside, take-append_seam front (byte ∷ back), drop-append-add front (byte ∷ back) 1) refl

-- where the byte is nowhere
pub parts_round-none : (byte : ℕ) (text : List ℕ) → HasNo byte text → parts_round byte text ≡ None
parts_round-none byte text none =
    let here : position_or_len (λ c. c == byte) text ≡ length text =
    position_or_len_is (λ c. c == byte) text (length text) 0 (omega arith) (λ k below. none k 0 below)
    (λ inside. absurd (omega arith)) in
    let outside = le-ltb (length text) (length text) (omega arith) in
    rw (here, outside) refl

chosen : (b : Bool) (f : ℕ → List ℕ × List ℕ) (at : ℕ) (parts : List ℕ × List ℕ)
    → option_map f (cond b (Some at) None) ≡ Some parts → (b ≡ true) × (f at ≡ parts)
chosen true f at parts e = (refl, cc)
chosen false f at parts e = cc

-- the parts are joined by the byte to the text
pub parts_round-Some : (byte : ℕ) (text : List ℕ) (parts : List ℕ × List ℕ) → parts_round byte text ≡ Some parts
    → text ≡ parts.0 ++ byte ∷ parts.1
parts_round-Some byte text parts e =
    let test = chosen _ _ (position_or_len (λ c. c == byte) text) parts e in
    let inside = ltb-true _ _ test.0 in
    let joined = split_at_first (λ c. c == byte) text 0 inside in
    let is : get_or text (position_or_len (λ c. c == byte) text) 0 ≡ byte =
    eqb-true _ _ (passes_at_first (λ c. c == byte) text 0 inside) in
    let whole : text ≡ before_first (λ c. c == byte) text ++ byte ∷ after_first (λ c. c == byte) text =
    rw is at joined in
    subst (λ (p : List ℕ × List ℕ). text ≡ p.0 ++ byte ∷ p.1) test.1 whole
