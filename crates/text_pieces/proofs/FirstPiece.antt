-- The pieces of a text, by the place of its first separator.
use Rattle.std.proofs.Common.{◌≡◌, ℕ, zero, suc, ◌+◌, ◌-◌, ◌<◌, true, eqb, List, [], ◌∷◌, length, take, drop, get_or, Some, None, refl, sym, ap, ◌∙◌, arith, inl, inr}
use Rattle.std.proofs.lemmas.Bool.{cases_Bool}
use Rattle.std.proofs.lemmas.List.{length-drop, take_all}
use Rattle.memchr.specs.Find.{IsFirstByte, is_byte}
use Rattle.text_pieces.specs.Pieces.{pieces, with_byte}

-- the first separator of a text ends the first piece
found : (separator : ℕ) (text : List ℕ) (at : ℕ) → at < length text → eqb (get_or text at 0) separator ≡ true
    → ((k : ℕ) → k < at → eqb (get_or text k 0) separator ≡ true → ⊥)
    → pieces separator text ≡ take at text ∷ pieces separator (drop (suc at) text)
found separator [] at within here before = absurd (omega (arith, within))
found separator (byte ∷ bytes) zero within here before = rw here refl
found separator (byte ∷ bytes) (suc n) within here before =
    elim (cases_Bool (eqb byte separator)) [
      | inl is ↦ absurd (before 0 (omega arith) is)
      | inr other ↦
          rw other (ap (with_byte byte) (found separator bytes n (omega (arith, within)) here
          (λ k low is. before (suc k) (omega (arith, low)) is)))
    ]

-- a text with no separator is one piece
whole : (separator : ℕ) (text : List ℕ) → ((k : ℕ) → k < length text → eqb (get_or text k 0) separator ≡ true → ⊥)
    → pieces separator text ≡ text ∷ []
whole separator [] before = refl
whole separator (byte ∷ bytes) before =
    elim (cases_Bool (eqb byte separator)) [
      | inl is ↦ absurd (before 0 (omega arith) is)
      | inr other ↦
          rw other (ap (with_byte byte) (whole separator bytes
          (λ k low is. before (suc k) (omega (arith, low)) is)))
    ]

-- what stands behind a place
rest_from : (text : List ℕ) (at : ℕ) → take (length text - (at + 1)) (drop (at + 1) text) ≡ drop (at + 1) text
rest_from text at = take_all (length text - (at + 1)) (drop (at + 1) text) (omega (arith, length-drop (at + 1) text))

pub piece_found : (separator : ℕ) (text : List ℕ) (at : ℕ) → IsFirstByte (is_byte separator) text (Some at)
    → pieces separator text ≡ take at text ∷ pieces separator (take (length text - (at + 1)) (drop (at + 1) text))
piece_found separator text at first =
    let next : suc at ≡ at + 1 = omega arith in
    found separator text at first.0.high first.1 (λ k low is. first.0.before k (omega arith) low is)
    ∙ ap (λ (n : ℕ). take at text ∷ pieces separator (drop n text)) next
    ∙ ap (λ (rest : List ℕ). take at text ∷ pieces separator rest) (sym (rest_from text at))

pub piece_whole : (separator : ℕ) (text : List ℕ) → IsFirstByte (is_byte separator) text None
    → pieces separator text ≡ text ∷ []
piece_whole separator text none = whole separator text (λ k low is. none k (omega arith) low is)
