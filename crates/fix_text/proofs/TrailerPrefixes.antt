-- The trailer, as the parts before it: more bytes change nothing that was decided, and what is short can be made whole.
use Rattle.std.proofs.Common.{◌≡◌, ℕ, ◌+◌, ◌*◌, ◌<◌, ◌≤◌, List, [], ◌∷◌, ◌++◌, length, Result, Ok, Err, refl, sym, ap, ◌∙◌, arith, append_assoc, inl, inr}
use Rattle.std.specs.Prelude.{codes}
use Rattle.std.proofs.lemmas.Bool.{and_from}
use Rattle.std.proofs.lemmas.List.{length-append}
use Rattle.fix_text.specs.Then.{◌>>=◌}
use Rattle.fix_text.specs.declared.parse.NoFrame.{NoFrame}
use Rattle.fix_text.specs.declared.parse.NoFrame.TheVariants.{Short, Differs}
use Rattle.fix_text.specs.Grammar.{digits_number, IsCheck, trailer_of}
use Rattle.fix_text.specs.Reading.{literal_at, digit_at, trailer_at}
use Rattle.fix_text.proofs.Readers.{literal_takes, digit_takes, first_step, second_step, third_step, last_step, digit_is}
use Rattle.fix_text.proofs.Prefixes.{bind_err, ok_differs, literal_more, literal_stays, literal_completes, digit_more, digit_stays, digit_short}

-- ---- what differs

last_stays : (a b : ℕ) (c : ℕ × List ℕ) (more : List ℕ) → last_step a b c ≡ Err Differs → last_step a b (c.0, c.1 ++ more) ≡ Err Differs
last_stays a b c more e =
    elim (bind_err (literal_at (1 ∷ []) c.1) (λ (rest : List ℕ). Ok (100 * a + 10 * b + c.0, rest)) Differs e) [
      | inl here ↦ ap (λ (r : Result (List ℕ) NoFrame). r >>= λ rest. Ok (100 * a + 10 * b + c.0, rest)) (literal_stays (1 ∷ []) c.1 more here)
      | inr later ↦ absurd (ok_differs (100 * a + 10 * b + c.0, later.0) Differs later.2)
    ]

third_stays : (a : ℕ) (b : ℕ × List ℕ) (more : List ℕ) → third_step a b ≡ Err Differs → third_step a (b.0, b.1 ++ more) ≡ Err Differs
third_stays a b more e =
    elim (bind_err (digit_at b.1) (last_step a b.0) Differs e) [
      | inl here ↦ ap (λ (r : Result (ℕ × List ℕ) NoFrame). r >>= last_step a b.0) (digit_stays b.1 more here)
      | inr later ↦ ap (λ (r : Result (ℕ × List ℕ) NoFrame). r >>= last_step a b.0) (digit_more b.1 later.0.0 later.0.1 more later.1) ∙ last_stays a b.0 later.0 more later.2
    ]

second_stays : (a : ℕ × List ℕ) (more : List ℕ) → second_step a ≡ Err Differs → second_step (a.0, a.1 ++ more) ≡ Err Differs
second_stays a more e =
    elim (bind_err (digit_at a.1) (third_step a.0) Differs e) [
      | inl here ↦ ap (λ (r : Result (ℕ × List ℕ) NoFrame). r >>= third_step a.0) (digit_stays a.1 more here)
      | inr later ↦ ap (λ (r : Result (ℕ × List ℕ) NoFrame). r >>= third_step a.0) (digit_more a.1 later.0.0 later.0.1 more later.1) ∙ third_stays a.0 later.0 more later.2
    ]

first_stays : (digits more : List ℕ) → first_step digits ≡ Err Differs → first_step (digits ++ more) ≡ Err Differs
first_stays digits more e =
    elim (bind_err (digit_at digits) second_step Differs e) [
      | inl here ↦ ap (λ (r : Result (ℕ × List ℕ) NoFrame). r >>= second_step) (digit_stays digits more here)
      | inr later ↦ ap (λ (r : Result (ℕ × List ℕ) NoFrame). r >>= second_step) (digit_more digits later.0.0 later.0.1 more later.1) ∙ second_stays later.0 more later.2
    ]

pub trailer_stays : (bytes more : List ℕ) → trailer_at bytes ≡ Err Differs → trailer_at (bytes ++ more) ≡ Err Differs
unfolding trailer_at
trailer_stays bytes more e =
    elim (bind_err (literal_at (codes "10=") bytes) first_step Differs e) [
      | inl here ↦ ap (λ (r : Result (List ℕ) NoFrame). r >>= first_step) (literal_stays (codes "10=") bytes more here)
      | inr later ↦ ap (λ (r : Result (List ℕ) NoFrame). r >>= first_step) (literal_more (codes "10=") bytes later.0 more later.1) ∙ first_stays later.0 more later.2
    ]

-- ---- what is short

-- what more it takes to make the end of a trailer, behind digits that were read
pub record CompletesDigits (before : List ℕ) (bytes : List ℕ) : Type 0 where
  pub missing : List ℕ
  pub some : 0 < length missing
  pub digits : List ℕ
  pub whole : bytes ++ missing ≡ digits ++ 1 ∷ []
  pub number : ℕ
  pub is_check : IsCheck (before ++ digits) number

pub three_is : (a b c : ℕ) → a ≤ 9 → b ≤ 9 → c ≤ 9 → IsCheck ((48 + a) ∷ (48 + b) ∷ (48 + c) ∷ []) (digits_number ((48 + a) ∷ (48 + b) ∷ (48 + c) ∷ []))
three_is a b c ha hb hc = record { three = refl; each = and_from _ _ (digit_is a ha) (and_from _ _ (digit_is b hb) (and_from _ _ (digit_is c hc) refl)); value = refl }

last_completes : (a b : ℕ) (c : ℕ × List ℕ) → a ≤ 9 → b ≤ 9 → c.0 ≤ 9 → last_step a b c ≡ Err Short → CompletesDigits ((48 + a) ∷ (48 + b) ∷ (48 + c.0) ∷ []) c.1
last_completes a b c ha hb hc e =
    elim (bind_err (literal_at (1 ∷ []) c.1) (λ (rest : List ℕ). Ok (100 * a + 10 * b + c.0, rest)) Short e) [
      | inl here ↦ let m = literal_completes (1 ∷ []) c.1 here in record { missing = m.0; some = m.1; digits = []; whole = m.2; number = _; is_check = three_is a b c.0 ha hb hc }
      | inr later ↦ absurd (ok_differs (100 * a + 10 * b + c.0, later.0) Short later.2)
    ]

third_completes : (a : ℕ) (b : ℕ × List ℕ) → a ≤ 9 → b.0 ≤ 9 → third_step a b ≡ Err Short → CompletesDigits ((48 + a) ∷ (48 + b.0) ∷ []) b.1
third_completes a b ha hb e =
    elim (bind_err (digit_at b.1) (last_step a b.0) Short e) [
      | inl here ↦ record { missing = 48 ∷ 1 ∷ []; some = omega arith; digits = 48 ∷ []; whole = ap (λ (t : List ℕ). t ++ 48 ∷ 1 ∷ []) (digit_short b.1 here); number = _; is_check = three_is a b.0 0 ha hb (omega arith) }
      | inr later ↦
          let is = digit_takes b.1 later.0.0 later.0.1 later.1 in
          let m = last_completes a b.0 later.0 ha hb is.1 later.2 in
          record { missing = m.missing; some = m.some; digits = (48 + later.0.0) ∷ m.digits; whole = ap (λ (t : List ℕ). t ++ m.missing) is.0 ∙ ap (λ (t : List ℕ). (48 + later.0.0) ∷ t) m.whole; number = m.number; is_check = m.is_check }
    ]

second_completes : (a : ℕ × List ℕ) → a.0 ≤ 9 → second_step a ≡ Err Short → CompletesDigits ((48 + a.0) ∷ []) a.1
second_completes a ha e =
    elim (bind_err (digit_at a.1) (third_step a.0) Short e) [
      | inl here ↦ record { missing = 48 ∷ 48 ∷ 1 ∷ []; some = omega arith; digits = 48 ∷ 48 ∷ []; whole = ap (λ (t : List ℕ). t ++ 48 ∷ 48 ∷ 1 ∷ []) (digit_short a.1 here); number = _; is_check = three_is a.0 0 0 ha (omega arith) (omega arith) }
      | inr later ↦
          let is = digit_takes a.1 later.0.0 later.0.1 later.1 in
          let m = third_completes a.0 later.0 ha is.1 later.2 in
          record { missing = m.missing; some = m.some; digits = (48 + later.0.0) ∷ m.digits; whole = ap (λ (t : List ℕ). t ++ m.missing) is.0 ∙ ap (λ (t : List ℕ). (48 + later.0.0) ∷ t) m.whole; number = m.number; is_check = m.is_check }
    ]

first_completes : (digits : List ℕ) → first_step digits ≡ Err Short → CompletesDigits [] digits
first_completes digits e =
    elim (bind_err (digit_at digits) second_step Short e) [
      | inl here ↦ record { missing = 48 ∷ 48 ∷ 48 ∷ 1 ∷ []; some = omega arith; digits = 48 ∷ 48 ∷ 48 ∷ []; whole = ap (λ (t : List ℕ). t ++ 48 ∷ 48 ∷ 48 ∷ 1 ∷ []) (digit_short digits here); number = _; is_check = three_is 0 0 0 (omega arith) (omega arith) (omega arith) }
      | inr later ↦
          let is = digit_takes digits later.0.0 later.0.1 later.1 in
          let m = second_completes later.0 is.1 later.2 in
          record { missing = m.missing; some = m.some; digits = (48 + later.0.0) ∷ m.digits; whole = ap (λ (t : List ℕ). t ++ m.missing) is.0 ∙ ap (λ (t : List ℕ). (48 + later.0.0) ∷ t) m.whole; number = m.number; is_check = m.is_check }
    ]

-- what more it takes to make a trailer
pub record CompletesTrailer (bytes : List ℕ) : Type 0 where
  pub missing : List ℕ
  pub some : 0 < length missing
  pub digits : List ℕ
  pub number : ℕ
  pub whole : bytes ++ missing ≡ trailer_of digits
  pub is_check : IsCheck digits number

pub trailer_completes : (bytes : List ℕ) → trailer_at bytes ≡ Err Short → CompletesTrailer bytes
unfolding trailer_at
trailer_completes bytes e =
    elim (bind_err (literal_at (codes "10=") bytes) first_step Short e) [
      | inl here ↦
          let m = literal_completes (codes "10=") bytes here in
          record {
            missing = m.0 ++ 48 ∷ 48 ∷ 48 ∷ 1 ∷ [];
            some = omega (arith, m.1, length-append m.0 (48 ∷ 48 ∷ 48 ∷ 1 ∷ []));
            digits = 48 ∷ 48 ∷ 48 ∷ [];
            number = _;
            whole = sym (append_assoc bytes m.0 (48 ∷ 48 ∷ 48 ∷ 1 ∷ [])) ∙ ap (λ (t : List ℕ). t ++ 48 ∷ 48 ∷ 48 ∷ 1 ∷ []) m.2;
            is_check = three_is 0 0 0 (omega arith) (omega arith) (omega arith);
          }
      | inr later ↦
          let m = first_completes later.0 later.2 in
          let is = literal_takes (codes "10=") bytes later.0 later.1 in
          record {
            missing = m.missing;
            some = m.some;
            digits = m.digits;
            number = m.number;
            whole = ap (λ (t : List ℕ). t ++ m.missing) is ∙ append_assoc (codes "10=") later.0 m.missing ∙ ap (λ (t : List ℕ). codes "10=" ++ t) m.whole;
            is_check = m.is_check;
          }
    ]
