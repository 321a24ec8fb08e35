-- The parts of a text, by the places of its separators.
use Rattle.std.proofs.Common.{◌≡◌, ℕ, zero, suc, ◌+◌, ◌-◌, ◌<◌, ◌≤◌, true, false, eqb, List, [], ◌∷◌, ◌++◌, length, get_or, take, drop, sym, ap, ◌∙◌, arith, inl, inr}
use Rattle.std.specs.Prelude.{slice_range}
use Rattle.std.proofs.lemmas.Bool.{cases_Bool, eqb-true, or_from}
use Rattle.std.proofs.lemmas.List.{drop_all, drop_more}
use Rattle.memchr.specs.Find.{is_byte, places_from, places_between}
use Rattle.fix_text.specs.Text.{holds_soh}

-- the places of the separators that are left
abbrev pub separators : List ℕ → ℕ → List ℕ
separators text at = places_between (is_byte 1) text at (length text)

-- a part of a text, up to its separator
pub record IsPart (text : List ℕ) (at end : ℕ) : Type 0 where
  pub ordered : at ≤ end
  pub within : end < length text
  pub parted : drop at text ≡ slice_range text at end ++ 1 ∷ drop (end + 1) text
  pub whole : holds_soh (slice_range text at end) ≡ false

firsts : (x y : ℕ) (xs ys : List ℕ) → x ∷ xs ≡ y ∷ ys → (x ≡ y) × (xs ≡ ys)
firsts x y xs ys e = (cc, cc)

one_longer : (text : List ℕ) (at end : ℕ) → at < length text → at + 1 ≤ end → slice_range text at end ≡ get_or text at 0 ∷ slice_range text (at + 1) end
one_longer text at end within ordered =
    let size : end - at ≡ suc (end - (at + 1)) = omega arith in
    ap (λ (k : ℕ). take k (drop at text)) size ∙ ap (take (suc (end - (at + 1)))) (drop_more text at 0 within)

part_here : (text : List ℕ) (at : ℕ) → at < length text → eqb (get_or text at 0) 1 ≡ true → IsPart text at at
part_here text at within here =
    let nothing : slice_range text at at ≡ [] = let size : at - at ≡ 0 = omega arith in ap (λ (k : ℕ). take k (drop at text)) size in
    record {
      ordered = omega arith;
      within = within;
      parted = drop_more text at 0 within ∙ ap (λ (b : ℕ). b ∷ drop (at + 1) text) (eqb-true _ _ here) ∙ ap (λ (part : List ℕ). part ++ 1 ∷ drop (at + 1) text) (sym nothing);
      whole = ap holds_soh nothing;
    }

part_longer : (text : List ℕ) (at end : ℕ) → at < length text → eqb (get_or text at 0) 1 ≡ false → IsPart text (at + 1) end → IsPart text at end
part_longer text at end within other part =
    let longer = one_longer text at end within part.ordered in
    record {
      ordered = omega (arith, part.ordered);
      within = part.within;
      parted = drop_more text at 0 within ∙ ap (λ (later : List ℕ). get_or text at 0 ∷ later) part.parted ∙ ap (λ (t : List ℕ). t ++ 1 ∷ drop (end + 1) text) (sym longer);
      whole = ap holds_soh longer ∙ or_from (eqb (get_or text at 0) 1) (holds_soh (slice_range text (at + 1) end)) other part.whole;
    }

first_part_from : (text : List ℕ) (at n end : ℕ) (left : List ℕ) → at + n ≡ length text → places_from (is_byte 1) text at n ≡ end ∷ left → IsPart text at end × (left ≡ separators text (end + 1))
unfolding places_from
first_part_from text at zero end left size e = absurd cc
first_part_from text at (suc n) end left size e =
    elim (cases_Bool (eqb (get_or text at 0) 1)) [
      | inl here ↦
          let is = firsts at end (places_from (is_byte 1) text (at + 1) n) left (rw here at e) in
          let count : n ≡ length text - (at + 1) = omega arith in
          let later : left ≡ separators text (at + 1) = sym is.1 ∙ ap (places_from (is_byte 1) text (at + 1)) count in
          rw (sym is.0) (part_here text at (omega arith) here, later)
      | inr other ↦
          let later = first_part_from text (at + 1) n end left (omega arith) (rw other at e) in
          (part_longer text at end (omega arith) other later.0, later.1)
    ]

-- the next separator ends the next part
pub first_part : (text : List ℕ) (at end : ℕ) (left : List ℕ) → at ≤ length text → separators text at ≡ end ∷ left → IsPart text at end × (left ≡ separators text (end + 1))
first_part text at end left within e = first_part_from text at (length text - at) end left (omega arith) e

no_part_from : (text : List ℕ) (at n : ℕ) → at + n ≡ length text → places_from (is_byte 1) text at n ≡ [] → holds_soh (drop at text) ≡ false
unfolding places_from
no_part_from text at zero size e = ap holds_soh (drop_all at text (omega arith))
no_part_from text at (suc n) size e =
    elim (cases_Bool (eqb (get_or text at 0) 1)) [
      | inl here ↦ let some : at ∷ places_from (is_byte 1) text (at + 1) n ≡ [] = rw here at e in absurd cc
      | inr other ↦
          let later : holds_soh (drop (at + 1) text) ≡ false = no_part_from text (at + 1) n (omega arith) (rw other at e) in
          ap holds_soh (drop_more text at 0 (omega arith)) ∙ or_from (eqb (get_or text at 0) 1) (holds_soh (drop (at + 1) text)) other later
    ]

-- where there is no separator more, there is no SOH
pub no_part : (text : List ℕ) (at : ℕ) → at ≤ length text → separators text at ≡ [] → holds_soh (drop at text) ≡ false
no_part text at within e = no_part_from text at (length text - at) (omega arith) e
