-- Where the first line of a text ends.
use Rattle.std.proofs.Common.{◌≡◌, ℕ, zero, suc, ◌+◌, ◌<◌, true, false, eqb, List, [], ◌∷◌, ◌++◌, length, take, drop, get_or, Option, Some, None, refl, ap, ◌∙◌, subst, arith, inl, inr}
use Rattle.std.proofs.lemmas.Bool.{cases_Bool, eqb-true}
use Rattle.std.proofs.lemmas.List.{length-take}
use Rattle.memchr.specs.Find.{IsFirstByte, is_byte}
use Rattle.journal_record.specs.Reading.{first_line, with_front}

some_front : (c : ℕ) (r : Option (List ℕ × List ℕ)) → with_front c r ≡ None → r ≡ None
some_front c None none = refl
some_front c (Some parts) none = absurd (cc)

-- a text in which no line ends goes on so, behind a byte that is no end
pub no_end-cons : (c : ℕ) (cs : List ℕ) → eqb c 10 ≡ false → first_line cs ≡ None → first_line (c ∷ cs) ≡ None
no_end-cons c cs other none = rw other (ap (with_front c) none)

-- and the other way round
pub no_end-rest : (c : ℕ) (cs : List ℕ) → first_line (c ∷ cs) ≡ None → first_line cs ≡ None
no_end-rest c cs none =
    elim (cases_Bool (eqb c 10)) [
      | inl is ↦ absurd (let found = rw is at none in cc)
      | inr other ↦ some_front c (first_line cs) (rw other at none)
    ]

pub no_end-first : (c : ℕ) (cs : List ℕ) → first_line (c ∷ cs) ≡ None → eqb c 10 ≡ false
no_end-first c cs none =
    elim (cases_Bool (eqb c 10)) [
      | inl is ↦ absurd (let found = rw is at none in cc)
      | inr other ↦ other
    ]

-- a beginning of a text in which no line ends
pub no_end-take : (n : ℕ) (text : List ℕ) → first_line text ≡ None → first_line (take n text) ≡ None
no_end-take zero text none = refl
no_end-take (suc n) [] none = refl
no_end-take (suc n) (c ∷ cs) none =
    no_end-cons c (take n cs) (no_end-first c cs none) (no_end-take n cs (no_end-rest c cs none))

-- what stands behind the beginning of one
pub no_end-behind : (front text : List ℕ) → first_line (front ++ text) ≡ None → first_line text ≡ None
no_end-behind [] text none = none
no_end-behind (c ∷ cs) text none = no_end-behind cs text (no_end-rest c (cs ++ text) none)

-- a line and its end
pub line_ends : (line rest : List ℕ) → first_line line ≡ None → first_line (line ++ 10 ∷ rest) ≡ Some (line, rest)
line_ends [] rest none = refl
line_ends (c ∷ cs) rest none =
    rw (no_end-first c cs none) (ap (with_front c) (line_ends cs rest (no_end-rest c cs none)))

-- the parts of a text make it
abbrev pub MakeUp : List ℕ → Option (List ℕ × List ℕ) → Type 0
MakeUp text None = first_line text ≡ None
MakeUp text (Some parts) = (text ≡ parts.0 ++ 10 ∷ parts.1) × (first_line parts.0 ≡ None)

made_up : (c : ℕ) (cs : List ℕ) → eqb c 10 ≡ false → (r : Option (List ℕ × List ℕ)) → first_line cs ≡ r → MakeUp cs r
    → MakeUp (c ∷ cs) (with_front c r)
made_up c cs other None is make = no_end-cons c cs other is
made_up c cs other (Some parts) is make =
    (ap (λ (l : List ℕ). c ∷ l) make.0, no_end-cons c parts.0 other make.1)

parts_of : (text : List ℕ) → MakeUp text (first_line text)
parts_of [] = refl
parts_of (c ∷ cs) =
    elim (cases_Bool (eqb c 10)) [
      | inl is ↦ rw is (ap (λ (b : ℕ). b ∷ cs) (eqb-true c 10 is), refl)
      | inr other ↦ rw other (made_up c cs other (first_line cs) refl (parts_of cs))
    ]

pub line_parts : (text whole rest : List ℕ) → first_line text ≡ Some (whole, rest)
    → (text ≡ whole ++ 10 ∷ rest) × (first_line whole ≡ None)
line_parts text whole rest is = subst (MakeUp text) is (parts_of text)

-- by the place of its end
found : (text : List ℕ) (at : ℕ) → at < length text → eqb (get_or text at 0) 10 ≡ true
    → ((k : ℕ) → k < at → eqb (get_or text k 0) 10 ≡ true → ⊥)
    → first_line text ≡ Some (take at text, drop (suc at) text)
found [] at within here before = absurd (omega (arith, within))
found (c ∷ cs) zero within here before = rw here refl
found (c ∷ cs) (suc n) within here before =
    elim (cases_Bool (eqb c 10)) [
      | inl is ↦ absurd (before 0 (omega arith) is)
      | inr other ↦
          rw other (ap (with_front c) (found cs n (omega (arith, within)) here
          (λ k low is. before (suc k) (omega (arith, low)) is)))
    ]

not_found : (text : List ℕ) → ((k : ℕ) → k < length text → eqb (get_or text k 0) 10 ≡ true → ⊥)
    → first_line text ≡ None
not_found [] before = refl
not_found (c ∷ cs) before =
    elim (cases_Bool (eqb c 10)) [
      | inl is ↦ absurd (before 0 (omega arith) is)
      | inr other ↦ no_end-cons c cs other (not_found cs (λ k low is. before (suc k) (omega (arith, low)) is))
    ]

pub line_found : (text : List ℕ) (at : ℕ) → IsFirstByte (is_byte 10) text (Some at)
    → (first_line text ≡ Some (take at text, drop (length (take at text) + 1) text))
    × (length (take at text) < length text)
line_found text at first =
    let within : at < length text = omega (arith, first.0.high) in
    let long : length (take at text) ≡ at = omega (arith, within, length-take at text) in
    let next : suc at ≡ length (take at text) + 1 = omega (arith, long) in (
      found text at within first.1 (λ k low is. first.0.before k (omega arith) low is)
          ∙ ap (λ (n : ℕ). Some (take at text, drop n text)) next,
      omega (arith, long, within),
    )

pub no_line : (text : List ℕ) → IsFirstByte (is_byte 10) text None → first_line text ≡ None
no_line text none = not_found text (λ k low is. none k (omega arith) low is)
