-- Readers of the parts of a frame: what each takes from the front, and that it reads again what was written.
use Rattle.std.proofs.Common.{◌≡◌, ℕ, ◌+◌, ◌-◌, ◌*◌, ◌<◌, ◌≤◌, Bool, true, false, cond, eqb, ltb, leb, List, [], ◌∷◌, ◌++◌, length, get_or, take, drop, Result, Ok, Err, refl, sym, ap, subst, ◌∙◌, arith, append_assoc, inl, inr, ◌⊎◌}
use Rattle.std.specs.Prelude.{IsTrue, ◌&&◌, ◌||◌, codes}
use Rattle.std.specs.Char.{is_ascii_digit}
use Rattle.std.specs.Str.{all_ascii_digits}
use Rattle.std.proofs.lemmas.Bool.{eqb-true, ltb-true, ltb-false, lt-ltb, le-ltb, le-leb, ne_eqb, eq-eqb, and_parts, and_from}
use Rattle.std.proofs.lemmas.List.{take_at, drop_at, take-append-drop, length-append, length-take-le, length_push, get_or_at, take_more}
use Rattle.fix_text.specs.Then.{◌>>=◌}
use Rattle.fix_text.specs.declared.parse.NoFrame.{NoFrame}
use Rattle.fix_text.specs.declared.parse.NoFrame.TheVariants.{Short, Differs}
use Rattle.fix_text.specs.Grammar.{number_after, IsLength, IsCheck, EndsInSoh, opening, header_of, trailer_of}
use Rattle.fix_text.specs.Reading.{literal_at, digit_at, length_at, body_at, trailer_at, frame_at, RawFrameParts}

-- the value of a step that went well
pub bind_ok : {A B : Type 0} (r : Result A NoFrame) (f : A → Result B NoFrame) (y : B) → (r >>= f) ≡ Ok y → (x : A) × (r ≡ Ok x) × (f x ≡ Ok y)
bind_ok (Ok x) f y e = (x, refl, e)
bind_ok (Err d) f y e = absurd cc

-- which way a test went
pub chosen : {A : Type 0} (b : Bool) (x y z : A) → cond b x y ≡ z → ((b ≡ true) × (x ≡ z)) ⊎ ((b ≡ false) × (y ≡ z))
chosen true x y z e = inl (refl, e)
chosen false x y z e = inr (refl, e)

abbrev pub done : {A : Type 0} → A → Result A NoFrame
done x = Ok x

pub ok_is : {A : Type 0} (x y : A) → done x ≡ done y → x ≡ y
ok_is x y e = cc

pub not_ok : {A : Type 0} (stop : NoFrame) (y : A) → Err stop ≡ done y → ⊥
not_ok stop y e = cc

-- the two parts of what a reader found
pub ok_pair : {A : Type 0} (x y : A) (rest after : List ℕ) → done {A = A × List ℕ} (x, rest) ≡ done {A = A × List ℕ} (y, after) → (x ≡ y) × (rest ≡ after)
ok_pair {A} x y rest after e =
    let same : ◌≡◌ {A = A × List ℕ} (x, rest) (y, after) = ok_is {A = A × List ℕ} (x, rest) (y, after) e in
    (ap (λ (p : A × List ℕ). p.0) same, ap (λ (p : A × List ℕ). p.1) same)

-- ---- a literal

pub literal_takes : (wanted bytes rest : List ℕ) → literal_at wanted bytes ≡ Ok rest → bytes ≡ wanted ++ rest
unfolding literal_at
literal_takes [] bytes rest e = ok_is bytes rest e
literal_takes (w ∷ wanted) [] rest e = absurd (not_ok Short rest e)
literal_takes (w ∷ wanted) (b ∷ bytes) rest e =
    elim (chosen (eqb b w) (literal_at wanted bytes) (Err Differs) (Ok rest) e) [
      | inl hit ↦ let later = literal_takes wanted bytes rest hit.1 in let same : b ≡ w = eqb-true b w hit.0 in rw (same, later) refl
      | inr miss ↦ absurd (not_ok Differs rest miss.1)
    ]

eqb_same : (n : ℕ) → eqb n n ≡ true
eqb_same n = grind arith

pub literal_again : (wanted rest : List ℕ) → literal_at wanted (wanted ++ rest) ≡ Ok rest
unfolding literal_at
literal_again [] rest = refl
literal_again (w ∷ wanted) rest = rw (eqb_same w) (literal_again wanted rest)

-- ---- a digit

pub digit_takes : (bytes : List ℕ) (d : ℕ) (rest : List ℕ) → digit_at bytes ≡ Ok (d, rest) → (bytes ≡ (48 + d) ∷ rest) × (d ≤ 9)
unfolding digit_at
digit_takes [] d rest e = absurd (not_ok Short (d, rest) e)
digit_takes (b ∷ bytes) d rest e =
    elim (chosen (is_ascii_digit b) (Ok (b - 48, bytes)) (Err Differs) (Ok (d, rest)) e) [
      | inl hit ↦
          let is = ok_pair (b - 48) d bytes rest hit.1 in
          let same : b ≡ 48 + d = grind (arith, hit.0, is.0) in
          (rw (same, is.1) refl, grind (arith, hit.0, is.0))
      | inr miss ↦ absurd (not_ok Differs (d, rest) miss.1)
    ]

pub digit_again : (byte : ℕ) (rest : List ℕ) → IsTrue (is_ascii_digit byte) → digit_at (byte ∷ rest) ≡ Ok (byte - 48, rest)
unfolding digit_at
digit_again byte rest h = rw h refl

-- ---- BodyLength

-- digits behind those of n, at most `left` of them, make a size
pub record Completes (left n size : ℕ) (digits : List ℕ) : Type 0 where
  pub few : length digits ≤ left
  pub each : IsTrue (all_ascii_digits digits)
  pub value : number_after n digits ≡ size
  pub positive : 0 < size
  pub bound : size ≤ 4096

pub digit_range : (b : ℕ) → IsTrue (is_ascii_digit b) → (48 ≤ b) × (b ≤ 57)
digit_range b h = (grind (arith, h), grind (arith, h))

-- digits only raise a number
pub number_after-ge : (n : ℕ) (digits : List ℕ) → n ≤ number_after n digits
number_after-ge n [] = omega arith
number_after-ge n (d ∷ digits) = omega (arith, number_after-ge (10 * n + (d - 48)) digits)

pub length_takes : (left n : ℕ) (bytes : List ℕ) (size : ℕ) (rest : List ℕ) → length_at left n bytes ≡ Ok (size, rest) → (digits : List ℕ) × (bytes ≡ digits ++ 1 ∷ rest) × Completes left n size digits
unfolding length_at
length_takes left n [] size rest e =
    elim (chosen (leb n 4096 && (ltb 0 n || ltb 0 left)) (Err Short) (Err Differs) (Ok (size, rest)) e) [
      | inl hit ↦ absurd (not_ok Short (size, rest) hit.1)
      | inr miss ↦ absurd (not_ok Differs (size, rest) miss.1)
    ]
length_takes left n (b ∷ bytes) size rest e =
    elim (chosen (eqb b 1) _ _ (Ok (size, rest)) e) [
      | inl soh ↦ elim (chosen (ltb 0 n && leb n 4096) (Ok (n, bytes)) (Err Differs) (Ok (size, rest)) soh.1) [
        | inl hit ↦
            let is = ok_pair n size bytes rest hit.1 in
            let one : b ≡ 1 = eqb-true b 1 soh.0 in
            ([], rw (one, is.1) refl, record { few = omega arith; each = refl; value = is.0; positive = grind (arith, hit.0, is.0); bound = grind (arith, hit.0, is.0) })
        | inr miss ↦ absurd (not_ok Differs (size, rest) miss.1)
      ]
      | inr other ↦ elim (chosen (is_ascii_digit b && ltb 0 left && leb n 4096) (length_at (left - 1) (10 * n + (b - 48)) bytes) (Err Differs) (Ok (size, rest)) other.1) [
        | inl hit ↦
            let later = length_takes (left - 1) (10 * n + (b - 48)) bytes size rest hit.1 in
            let tests = and_parts (is_ascii_digit b && ltb 0 left) (leb n 4096) hit.0 in
            let firsts = and_parts (is_ascii_digit b) (ltb 0 left) tests.0 in
            let room : 0 < left = ltb-true _ _ firsts.1 in
            (b ∷ later.0, ap (λ (t : List ℕ). b ∷ t) later.1, record { few = omega (arith, later.2.few); each = and_from (is_ascii_digit b) (all_ascii_digits later.0) firsts.0 later.2.each; value = later.2.value; positive = later.2.positive; bound = later.2.bound })
        | inr miss ↦ absurd (not_ok Differs (size, rest) miss.1)
      ]
    ]

pub length_again : (left n size : ℕ) (digits rest : List ℕ) → Completes left n size digits → length_at left n (digits ++ 1 ∷ rest) ≡ Ok (size, rest)
unfolding length_at
length_again left n size [] rest h =
    let low : ltb 0 n ≡ true = lt-ltb _ _ (omega (arith, h.value, h.positive)) in
    let high : leb n 4096 ≡ true = le-leb _ _ (omega (arith, h.value, h.bound)) in
    rw (low, high) (ap (λ (k : ℕ). Ok (k, rest)) h.value)
length_again left n size (d ∷ digits) rest h =
    let split = and_parts (is_ascii_digit d) (all_ascii_digits digits) h.each in
    let range = digit_range d split.0 in
    let other : eqb d 1 ≡ false = ne_eqb _ _ (λ (is : d ≡ 1). omega (arith, range.0)) in
    let room : ltb 0 left ≡ true = lt-ltb _ _ (omega (arith, h.few)) in
    let high : leb n 4096 ≡ true = le-leb _ _ (omega (arith, number_after-ge (10 * n + (d - 48)) digits, h.value, h.bound)) in
    rw (other, split.0, room, high) (length_again (left - 1) (10 * n + (d - 48)) size digits rest (record { few = omega (arith, h.few); each = split.1; value = h.value; positive = h.positive; bound = h.bound }))

-- ---- a body

pub body_takes : (n : ℕ) (bytes body rest : List ℕ) → 0 < n → body_at n bytes ≡ Ok (body, rest) → (bytes ≡ body ++ rest) × (length body ≡ n) × EndsInSoh body
unfolding body_at
body_takes n bytes body rest positive e =
    elim (chosen (ltb (length bytes) n) (Err Short) _ (Ok (body, rest)) e) [
      | inl short ↦ absurd (not_ok Short (body, rest) short.1)
      | inr long ↦ elim (chosen (eqb (get_or bytes (n - 1) 0) 1) (Ok (take n bytes, drop n bytes)) (Err Differs) (Ok (body, rest)) long.1) [
        | inl hit ↦
            let is = ok_pair (take n bytes) body (drop n bytes) rest hit.1 in
            let room : n ≤ length bytes = ltb-false _ _ long.0 in
            let last : get_or bytes (n - 1) 0 ≡ 1 = eqb-true _ _ hit.0 in
            let size : n - 1 + 1 ≡ n = omega arith in
            let cut : take n bytes ≡ take (n - 1) bytes ++ 1 ∷ [] = ap (λ (k : ℕ). take k bytes) (sym size) ∙ take_more bytes (n - 1) 0 (omega arith) ∙ ap (λ (b : ℕ). take (n - 1) bytes ++ b ∷ []) last in
            (sym (take-append-drop n bytes) ∙ ap (λ (t : List ℕ). t ++ drop n bytes) is.0 ∙ ap (λ (t : List ℕ). body ++ t) is.1, ap length (sym is.0) ∙ length-take-le n bytes room, record { front = take (n - 1) bytes; ends = sym is.0 ∙ cut })
        | inr miss ↦ absurd (not_ok Differs (body, rest) miss.1)
      ]
    ]

last_is : (body front rest : List ℕ) → body ≡ front ++ 1 ∷ [] → get_or (body ++ rest) (length body - 1) 0 ≡ 1
last_is body front rest e =
    let size : length front ≡ length body - 1 = omega (arith, ap length e, length_push front 1) in
    ap (λ (t : List ℕ). get_or (t ++ rest) (length body - 1) 0) e ∙ ap (λ (t : List ℕ). get_or t (length body - 1) 0) (append_assoc front (1 ∷ []) rest) ∙ get_or_at front 1 rest 0 (length body - 1) size

pub body_again : (body rest : List ℕ) → EndsInSoh body → body_at (length body) (body ++ rest) ≡ Ok (body, rest)
unfolding body_at
body_again body rest h =
    let room : ltb (length (body ++ rest)) (length body) ≡ false = le-ltb _ _ (omega (arith, length-append body rest)) in
    let last : eqb (get_or (body ++ rest) (length body - 1) 0) 1 ≡ true = eq-eqb _ _ (last_is body h.front rest h.ends) in
    rw (room, last, take_at body rest (length body) refl, drop_at body rest (length body) refl) refl

-- ---- the trailer

-- the steps of a trailer
abbrev pub last_step : ℕ → ℕ → ℕ × List ℕ → Result (ℕ × List ℕ) NoFrame
last_step a b c = literal_at (1 ∷ []) c.1 >>= λ rest. Ok (100 * a + 10 * b + c.0, rest)

abbrev pub third_step : ℕ → ℕ × List ℕ → Result (ℕ × List ℕ) NoFrame
third_step a b = digit_at b.1 >>= last_step a b.0

abbrev pub second_step : ℕ × List ℕ → Result (ℕ × List ℕ) NoFrame
second_step a = digit_at a.1 >>= third_step a.0

abbrev pub first_step : List ℕ → Result (ℕ × List ℕ) NoFrame
first_step digits = digit_at digits >>= second_step

pub digit_is : (d : ℕ) → d ≤ 9 → IsTrue (is_ascii_digit (48 + d))
digit_is d h = and_from (leb 48 (48 + d)) (leb (48 + d) 57) (le-leb _ _ (omega arith)) (le-leb _ _ (omega arith))

pub trailer_takes : (bytes : List ℕ) (check : ℕ) (rest : List ℕ) → trailer_at bytes ≡ Ok (check, rest) → (digits : List ℕ) × (bytes ≡ trailer_of digits ++ rest) × IsCheck digits check
unfolding trailer_at
trailer_takes bytes check rest e =
    let tag = bind_ok (literal_at (codes "10=") bytes) first_step (check, rest) e in
    let a = bind_ok (digit_at tag.0) second_step (check, rest) tag.2 in
    let b = bind_ok (digit_at a.0.1) (third_step a.0.0) (check, rest) a.2 in
    let c = bind_ok (digit_at b.0.1) (last_step a.0.0 b.0.0) (check, rest) b.2 in
    let end = bind_ok (literal_at (1 ∷ []) c.0.1) (λ (after : List ℕ). Ok (100 * a.0.0 + 10 * b.0.0 + c.0.0, after)) (check, rest) c.2 in
    let is = ok_pair (100 * a.0.0 + 10 * b.0.0 + c.0.0) check end.0 rest end.2 in
    let a-is = digit_takes tag.0 a.0.0 a.0.1 a.1 in
    let b-is = digit_takes a.0.1 b.0.0 b.0.1 b.1 in
    let c-is = digit_takes b.0.1 c.0.0 c.0.1 c.1 in
    let tag-is = literal_takes (codes "10=") bytes tag.0 tag.1 in
    let end-is = literal_takes (1 ∷ []) c.0.1 end.0 end.1 in (
      (48 + a.0.0) ∷ (48 + b.0.0) ∷ (48 + c.0.0) ∷ [],
      tag-is ∙ ap (λ (t : List ℕ). codes "10=" ++ t) (a-is.0 ∙ ap (λ (t : List ℕ). (48 + a.0.0) ∷ t) (b-is.0 ∙ ap (λ (t : List ℕ). (48 + b.0.0) ∷ t) (c-is.0 ∙ ap (λ (t : List ℕ). (48 + c.0.0) ∷ t) (end-is ∙ ap (λ (t : List ℕ). 1 ∷ t) is.1)))),
      record { three = refl; each = and_from _ _ (digit_is a.0.0 a-is.1) (and_from _ _ (digit_is b.0.0 b-is.1) (and_from _ _ (digit_is c.0.0 c-is.1) refl)); value = omega (arith, is.0) },
    )

pub trailer_again : (digits : List ℕ) (check : ℕ) (rest : List ℕ) → IsCheck digits check → trailer_at (trailer_of digits ++ rest) ≡ Ok (check, rest)
unfolding trailer_at
trailer_again [] check rest h = absurd (omega (arith, h.three))
trailer_again (a ∷ []) check rest h = absurd (omega (arith, h.three))
trailer_again (a ∷ b ∷ []) check rest h = absurd (omega (arith, h.three))
trailer_again (a ∷ b ∷ c ∷ []) check rest h =
    let first = and_parts (is_ascii_digit a) (all_ascii_digits (b ∷ c ∷ [])) h.each in
    let second = and_parts (is_ascii_digit b) (all_ascii_digits (c ∷ [])) first.1 in
    let third = and_parts (is_ascii_digit c) true second.1 in
    let value : 100 * (a - 48) + 10 * (b - 48) + (c - 48) ≡ check = omega (arith, h.value) in
    ap (λ (r : Result (List ℕ) NoFrame). r >>= first_step) (literal_again (codes "10=") (a ∷ b ∷ c ∷ 1 ∷ rest))
    ∙ ap (λ (r : Result (ℕ × List ℕ) NoFrame). r >>= second_step) (digit_again a (b ∷ c ∷ 1 ∷ rest) first.0)
    ∙ ap (λ (r : Result (ℕ × List ℕ) NoFrame). r >>= third_step (a - 48)) (digit_again b (c ∷ 1 ∷ rest) second.0)
    ∙ ap (λ (r : Result (ℕ × List ℕ) NoFrame). r >>= last_step (a - 48) (b - 48)) (digit_again c (1 ∷ rest) third.0)
    ∙ ap (λ (r : Result (List ℕ) NoFrame). r >>= λ after. Ok (100 * (a - 48) + 10 * (b - 48) + (c - 48), after)) (literal_again (1 ∷ []) rest)
    ∙ ap (λ (n : ℕ). Ok (n, rest)) value
trailer_again (a ∷ b ∷ c ∷ d ∷ digits) check rest h = absurd (omega (arith, h.three))

-- ---- a frame

-- what a frame is spelled of: header, body and trailer
pub record Spelled (text : List ℕ) (whole : RawFrameParts) : Type 0 where
  pub digits : List ℕ
  pub check : List ℕ
  pub text_is : text ≡ (header_of digits ++ whole.body) ++ trailer_of check
  pub before_is : whole.before ≡ header_of digits ++ whole.body
  pub is_length : IsLength digits (length whole.body)
  pub is_body : EndsInSoh whole.body
  pub is_check : IsCheck check whole.check

-- the steps of a frame
abbrev pub end_step : List ℕ → List ℕ × List ℕ → Result RawFrameParts NoFrame
end_step bytes body = trailer_at body.1 >>= λ trailer. Ok (record { before = take (length bytes - length body.1) bytes; body = body.0; check = trailer.0; rest = trailer.1 })

abbrev pub body_step : List ℕ → ℕ × List ℕ → Result RawFrameParts NoFrame
body_step bytes size = body_at size.0 size.1 >>= end_step bytes

abbrev pub length_step : List ℕ → List ℕ → Result RawFrameParts NoFrame
length_step bytes digits = length_at 6 0 digits >>= body_step bytes

regroup : (o d b r : List ℕ) → o ++ (d ++ 1 ∷ (b ++ r)) ≡ (o ++ (d ++ 1 ∷ []) ++ b) ++ r
regroup o d b r = simp append_assoc

front_taken : (bytes front rest : List ℕ) → bytes ≡ front ++ rest → take (length bytes - length rest) bytes ≡ front
front_taken bytes front rest e = rw e (take_at front rest (length (front ++ rest) - length rest) (omega (arith, length-append front rest)))

pub is_length_from : (digits : List ℕ) (size : ℕ) → Completes 6 0 size digits → IsLength digits size
is_length_from digits size h = record { few = h.few; each = h.each; value = h.value; positive = h.positive; bound = h.bound }

pub frame_takes : (bytes : List ℕ) (whole : RawFrameParts) → frame_at bytes ≡ Ok whole → (text : List ℕ) × Spelled text whole × (bytes ≡ text ++ whole.rest)
unfolding frame_at
frame_takes bytes whole e =
    let o = bind_ok (literal_at opening bytes) (length_step bytes) whole e in
    let l = bind_ok (length_at 6 0 o.0) (body_step bytes) whole o.2 in
    let b = bind_ok (body_at l.0.0 l.0.1) (end_step bytes) whole l.2 in
    let t = bind_ok (trailer_at b.0.1) (λ (trailer : ℕ × List ℕ). Ok (record { before = take (length bytes - length b.0.1) bytes; body = b.0.0; check = trailer.0; rest = trailer.1 })) whole b.2 in
    let made : RawFrameParts = record { before = take (length bytes - length b.0.1) bytes; body = b.0.0; check = t.0.0; rest = t.0.1 } in
    let o-is = literal_takes opening bytes o.0 o.1 in
    let l-is = length_takes 6 0 o.0 l.0.0 l.0.1 l.1 in
    let b-is = body_takes l.0.0 l.0.1 b.0.0 b.0.1 l-is.2.positive b.1 in
    let t-is = trailer_takes b.0.1 t.0.0 t.0.1 t.1 in
    let front : List ℕ = header_of l-is.0 ++ b.0.0 in
    let parted : bytes ≡ front ++ b.0.1 = o-is ∙ ap (λ (x : List ℕ). opening ++ x) (l-is.1 ∙ ap (λ (x : List ℕ). l-is.0 ++ 1 ∷ x) b-is.0) ∙ regroup opening l-is.0 b.0.0 b.0.1 in
    let whole_parted : bytes ≡ (front ++ trailer_of t-is.0) ++ t.0.1 = parted ∙ ap (λ (x : List ℕ). front ++ x) t-is.1 ∙ sym (append_assoc front (trailer_of t-is.0) t.0.1) in
    let spelled : Spelled (front ++ trailer_of t-is.0) made = record {
      digits = l-is.0;
      check = t-is.0;
      text_is = refl;
      before_is = front_taken bytes front b.0.1 parted;
      is_length = rw b-is.1 (is_length_from l-is.0 l.0.0 l-is.2);
      is_body = b-is.2;
      is_check = t-is.2;
    } in
    subst (λ (w : RawFrameParts). (text : List ℕ) × Spelled text w × (bytes ≡ text ++ w.rest)) (ok_is made whole t.2) (front ++ trailer_of t-is.0, spelled, whole_parted)

pub frame_again : (digits body check rest : List ℕ) (number : ℕ) → IsLength digits (length body) → EndsInSoh body → IsCheck check number
    → frame_at (((header_of digits ++ body) ++ trailer_of check) ++ rest) ≡ Ok (record { before = header_of digits ++ body; body = body; check = number; rest = rest })
unfolding frame_at
frame_again digits body check rest number is_length is_body is_check =
    let front : List ℕ = header_of digits ++ body in
    let after : List ℕ = trailer_of check ++ rest in
    let bytes : List ℕ = (front ++ trailer_of check) ++ rest in
    let parted : bytes ≡ front ++ after = append_assoc front (trailer_of check) rest in
    let opened : bytes ≡ opening ++ (digits ++ 1 ∷ (body ++ after)) = parted ∙ sym (regroup opening digits body after) in
    let completes : Completes 6 0 (length body) digits = record { few = is_length.few; each = is_length.each; value = is_length.value; positive = is_length.positive; bound = is_length.bound } in
    let o : literal_at opening bytes ≡ Ok (digits ++ 1 ∷ (body ++ after)) = ap (literal_at opening) opened ∙ literal_again opening (digits ++ 1 ∷ (body ++ after)) in
    ap (λ (r : Result (List ℕ) NoFrame). r >>= length_step bytes) o
    ∙ ap (λ (r : Result (ℕ × List ℕ) NoFrame). r >>= body_step bytes) (length_again 6 0 (length body) digits (body ++ after) completes)
    ∙ ap (λ (r : Result (List ℕ × List ℕ) NoFrame). r >>= end_step bytes) (body_again body after is_body)
    ∙ ap (λ (r : Result (ℕ × List ℕ) NoFrame). r >>= λ trailer. Ok (record { before = take (length bytes - length after) bytes; body = body; check = trailer.0; rest = trailer.1 })) (trailer_again check number rest is_check)
    ∙ ap (λ (before : List ℕ). Ok (record { before = before; body = body; check = number; rest = rest })) (front_taken bytes front after parted)

-- ---- what a reader needs of them

-- where no frame begins there is a byte
pub differs_some : (bytes : List ℕ) → Err Differs ≡ frame_at bytes → 1 ≤ length bytes
unfolding frame_at literal_at
differs_some [] e = absurd cc
differs_some (b ∷ bytes) e = omega arith

-- a frame takes bytes, and what follows it is what is left
pub frame_shorter : (bytes : List ℕ) (whole : RawFrameParts) → Ok whole ≡ frame_at bytes → length whole.rest < length bytes
frame_shorter bytes whole e =
    let t = frame_takes bytes whole (sym e) in
    omega (arith, ap length t.2, length-append t.0 whole.rest, ap length t.1.text_is, length-append (header_of t.1.digits ++ whole.body) (trailer_of t.1.check))
