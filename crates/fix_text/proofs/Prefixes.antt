-- More bytes at the end change nothing that was decided, and what is short can be made whole.
use Rattle.std.proofs.Common.{◌≡◌, ℕ, ◌+◌, ◌-◌, ◌*◌, ◌<◌, ◌≤◌, Bool, true, false, cond, eqb, ltb, leb, List, [], ◌∷◌, ◌++◌, length, get_or, take, drop, replicate, Result, Ok, Err, refl, sym, ap, ◌∙◌, arith, append_assoc, inl, inr, ◌⊎◌}
use Rattle.std.specs.Prelude.{◌&&◌, ◌||◌}
use Rattle.std.specs.Char.{is_ascii_digit}
use Rattle.std.specs.Str.{all_ascii_digits}
use Rattle.std.proofs.lemmas.Bool.{eqb-true, ltb-true, ltb-false, leb-true, le-ltb, and_parts, and_from, and_cases, and_left, and_right, or_parts, or_cases, cases_lt}
use Rattle.std.proofs.lemmas.List.{length-append, length-replicate, get_or_append_left}
use Rattle.fix_text.specs.Then.{◌>>=◌}
use Rattle.fix_text.specs.declared.parse.NoFrame.{NoFrame}
use Rattle.fix_text.specs.declared.parse.NoFrame.TheVariants.{Short, Differs}
use Rattle.fix_text.specs.Grammar.{EndsInSoh}
use Rattle.fix_text.specs.Reading.{literal_at, digit_at, length_at, body_at}
use Rattle.fix_text.proofs.Readers.{chosen, done, literal_takes, literal_again, digit_takes, digit_again, Completes, length_takes, length_again, body_takes, body_again, digit_is}

-- where a step stopped: at its first part, or behind it
pub bind_err : {A B : Type 0} (r : Result A NoFrame) (f : A → Result B NoFrame) (stop : NoFrame) → (r >>= f) ≡ Err stop → (r ≡ Err stop) ⊎ ((x : A) × (r ≡ Ok x) × (f x ≡ Err stop))
bind_err (Ok x) f stop e = inr (x, refl, e)
bind_err (Err s) f stop e = inl (ap (λ (t : NoFrame). Err t) (stop_is s stop e)) where
  stop_is : {B : Type 0} (s t : NoFrame) → ◌≡◌ {A = Result B NoFrame} (Err s) (Err t) → s ≡ t
  stop_is s t e = cc

abbrev stopped : {A : Type 0} → NoFrame → Result A NoFrame
stopped stop = Err stop

pub short_differs : {A : Type 0} → stopped {A = A} Short ≡ stopped {A = A} Differs → ⊥
short_differs e = cc

pub ok_differs : {A : Type 0} (x : A) (stop : NoFrame) → done x ≡ stopped stop → ⊥
ok_differs x stop e = cc

-- ---- a literal

pub literal_more : (wanted bytes rest more : List ℕ) → literal_at wanted bytes ≡ Ok rest → literal_at wanted (bytes ++ more) ≡ Ok (rest ++ more)
literal_more wanted bytes rest more e =
    ap (literal_at wanted) (ap (λ (t : List ℕ). t ++ more) (literal_takes wanted bytes rest e) ∙ append_assoc wanted rest more) ∙ literal_again wanted (rest ++ more)

pub literal_stays : (wanted bytes more : List ℕ) → literal_at wanted bytes ≡ Err Differs → literal_at wanted (bytes ++ more) ≡ Err Differs
unfolding literal_at
literal_stays [] bytes more e = absurd (ok_differs bytes Differs e)
literal_stays (w ∷ wanted) [] more e = absurd (short_differs e)
literal_stays (w ∷ wanted) (b ∷ bytes) more e =
    elim (chosen (eqb b w) (literal_at wanted bytes) (Err Differs) (Err Differs) e) [
      | inl hit ↦ rw hit.0 (literal_stays wanted bytes more hit.1)
      | inr miss ↦ rw miss.0 refl
    ]

pub literal_completes : (wanted bytes : List ℕ) → literal_at wanted bytes ≡ Err Short → (missing : List ℕ) × (0 < length missing) × (bytes ++ missing ≡ wanted)
unfolding literal_at
literal_completes [] bytes e = absurd (ok_differs bytes Short e)
literal_completes (w ∷ wanted) [] e = (w ∷ wanted, omega arith, refl)
literal_completes (w ∷ wanted) (b ∷ bytes) e =
    elim (chosen (eqb b w) (literal_at wanted bytes) (Err Differs) (Err Short) e) [
      | inl hit ↦ let later = literal_completes wanted bytes hit.1 in let same : b ≡ w = eqb-true b w hit.0 in (later.0, later.1, rw (same, later.2) refl)
      | inr miss ↦ absurd (short_differs (sym miss.1))
    ]

-- ---- a digit

pub digit_more : (bytes : List ℕ) (d : ℕ) (rest more : List ℕ) → digit_at bytes ≡ Ok (d, rest) → digit_at (bytes ++ more) ≡ Ok (d, rest ++ more)
digit_more bytes d rest more e =
    let is = digit_takes bytes d rest e in
    ap (λ (t : List ℕ). digit_at (t ++ more)) is.0 ∙ digit_again (48 + d) (rest ++ more) (digit_is d is.1) ∙ ap (λ (n : ℕ). Ok (n, rest ++ more)) (omega arith)

pub digit_stays : (bytes more : List ℕ) → digit_at bytes ≡ Err Differs → digit_at (bytes ++ more) ≡ Err Differs
unfolding digit_at
digit_stays [] more e = absurd (short_differs e)
digit_stays (b ∷ bytes) more e =
    elim (chosen (is_ascii_digit b) (Ok (b - 48, bytes)) (Err Differs) (Err Differs) e) [
      | inl hit ↦ absurd (ok_differs (b - 48, bytes) Differs hit.1)
      | inr miss ↦ rw miss.0 refl
    ]

pub digit_short : (bytes : List ℕ) → digit_at bytes ≡ Err Short → bytes ≡ []
unfolding digit_at
digit_short [] e = refl
digit_short (b ∷ bytes) e =
    elim (chosen (is_ascii_digit b) (Ok (b - 48, bytes)) (Err Differs) (Err Short) e) [
      | inl hit ↦ absurd (ok_differs (b - 48, bytes) Short hit.1)
      | inr miss ↦ absurd (short_differs (sym miss.1))
    ]

-- ---- BodyLength

pub length_more : (left n : ℕ) (bytes : List ℕ) (size : ℕ) (rest more : List ℕ) → length_at left n bytes ≡ Ok (size, rest) → length_at left n (bytes ++ more) ≡ Ok (size, rest ++ more)
length_more left n bytes size rest more e =
    let is = length_takes left n bytes size rest e in
    ap (length_at left n) (ap (λ (t : List ℕ). t ++ more) is.1 ∙ append_assoc is.0 (1 ∷ rest) more) ∙ length_again left n size is.0 (rest ++ more) is.2

-- no size can come of a number that is too large, or of zeros only
pub length_dead : (left n : ℕ) (bytes : List ℕ) → leb n 4096 && (ltb 0 n || ltb 0 left) ≡ false → length_at left n bytes ≡ Err Differs
unfolding length_at
length_dead left n [] dead = rw dead refl
length_dead left n (b ∷ bytes) dead = byte (eqb b 1) where
  no_size : ltb 0 n && leb n 4096 ≡ false
  no_size = elim (and_cases (leb n 4096) (ltb 0 n || ltb 0 left) dead) [
    | inl large ↦ and_right (ltb 0 n) (leb n 4096) large
    | inr zeros ↦ and_left (ltb 0 n) (leb n 4096) (or_parts (ltb 0 n) (ltb 0 left) zeros).0
  ]

  no_more : (d : Bool) → d && ltb 0 left && leb n 4096 ≡ false
  no_more d = elim (and_cases (leb n 4096) (ltb 0 n || ltb 0 left) dead) [
    | inl large ↦ and_right (d && ltb 0 left) (leb n 4096) large
    | inr zeros ↦ and_left (d && ltb 0 left) (leb n 4096) (and_right d (ltb 0 left) (or_parts (ltb 0 n) (ltb 0 left) zeros).1)
  ]

  byte : (soh : Bool) → cond soh (cond (ltb 0 n && leb n 4096) (Ok (n, bytes)) (Err Differs)) (cond (is_ascii_digit b && ltb 0 left && leb n 4096) (length_at (left - 1) (10 * n + (b - 48)) bytes) (Err Differs)) ≡ Err Differs
  byte true = rw no_size refl
  byte false = rw (no_more (is_ascii_digit b)) refl

pub length_stays : (left n : ℕ) (bytes more : List ℕ) → length_at left n bytes ≡ Err Differs → length_at left n (bytes ++ more) ≡ Err Differs
unfolding length_at
length_stays left n [] more e =
    elim (chosen (leb n 4096 && (ltb 0 n || ltb 0 left)) (Err Short) (Err Differs) (Err Differs) e) [
      | inl alive ↦ absurd (short_differs alive.1)
      | inr dead ↦ length_dead left n more dead.0
    ]
length_stays left n (b ∷ bytes) more e =
    elim (chosen (eqb b 1) _ _ (Err Differs) e) [
      | inl soh ↦ elim (chosen (ltb 0 n && leb n 4096) (Ok (n, bytes)) (Err Differs) (Err Differs) soh.1) [
        | inl hit ↦ absurd (ok_differs (n, bytes) Differs hit.1)
        | inr miss ↦ rw (soh.0, miss.0) refl
      ]
      | inr other ↦ elim (chosen (is_ascii_digit b && ltb 0 left && leb n 4096) (length_at (left - 1) (10 * n + (b - 48)) bytes) (Err Differs) (Err Differs) other.1) [
        | inl hit ↦ rw (other.0, hit.0) (length_stays (left - 1) (10 * n + (b - 48)) bytes more hit.1)
        | inr miss ↦ rw (other.0, miss.0) refl
      ]
    ]

-- what more it takes to make a size
pub record CompletesLength (left n : ℕ) (bytes : List ℕ) : Type 0 where
  pub missing : List ℕ
  pub some : 0 < length missing
  pub size : ℕ
  pub digits : List ℕ
  pub whole : bytes ++ missing ≡ digits ++ 1 ∷ []
  pub completes : Completes left n size digits

pub length_completes : (left n : ℕ) (bytes : List ℕ) → length_at left n bytes ≡ Err Short → CompletesLength left n bytes
unfolding length_at
length_completes left n [] e =
    elim (chosen (leb n 4096 && (ltb 0 n || ltb 0 left)) (Err Short) (Err Differs) (Err Short) e) [
      | inl alive ↦
          let split = and_parts (leb n 4096) (ltb 0 n || ltb 0 left) alive.0 in
          let high : n ≤ 4096 = leb-true _ _ split.0 in
          elim (cases_lt 0 n) [
            | inl positive ↦ record { missing = 1 ∷ []; some = omega arith; size = n; digits = []; whole = refl; completes = record { few = omega arith; each = refl; value = refl; positive = positive; bound = high } }
            | inr zeros ↦
                let room : 0 < left = elim (or_cases (ltb 0 n) (ltb 0 left) split.1) [ inl p ↦ absurd (omega (arith, ltb-true _ _ p)) | inr q ↦ ltb-true _ _ q ] in
                record { missing = 49 ∷ 1 ∷ []; some = omega arith; size = 1; digits = 49 ∷ []; whole = refl; completes = record { few = omega arith; each = refl; value = omega arith; positive = omega arith; bound = omega arith } }
          ]
      | inr dead ↦ absurd (short_differs (sym dead.1))
    ]
length_completes left n (b ∷ bytes) e =
    elim (chosen (eqb b 1) _ _ (Err Short) e) [
      | inl soh ↦ elim (chosen (ltb 0 n && leb n 4096) (Ok (n, bytes)) (Err Differs) (Err Short) soh.1) [
        | inl hit ↦ absurd (ok_differs (n, bytes) Short hit.1)
        | inr miss ↦ absurd (short_differs (sym miss.1))
      ]
      | inr other ↦ elim (chosen (is_ascii_digit b && ltb 0 left && leb n 4096) (length_at (left - 1) (10 * n + (b - 48)) bytes) (Err Differs) (Err Short) other.1) [
        | inl hit ↦
            let later = length_completes (left - 1) (10 * n + (b - 48)) bytes hit.1 in
            let tests = and_parts (is_ascii_digit b && ltb 0 left) (leb n 4096) hit.0 in
            let firsts = and_parts (is_ascii_digit b) (ltb 0 left) tests.0 in
            let room : 0 < left = ltb-true _ _ firsts.1 in
            let h = later.completes in
            record {
              missing = later.missing;
              some = later.some;
              size = later.size;
              digits = b ∷ later.digits;
              whole = ap (λ (t : List ℕ). b ∷ t) later.whole;
              completes = record { few = omega (arith, h.few); each = and_from (is_ascii_digit b) (all_ascii_digits later.digits) firsts.0 h.each; value = h.value; positive = h.positive; bound = h.bound };
            }
        | inr miss ↦ absurd (short_differs (sym miss.1))
      ]
    ]

-- ---- a body

pub body_more : (n : ℕ) (bytes body rest more : List ℕ) → 0 < n → body_at n bytes ≡ Ok (body, rest) → body_at n (bytes ++ more) ≡ Ok (body, rest ++ more)
body_more n bytes body rest more positive e =
    let is = body_takes n bytes body rest positive e in
    ap (λ (k : ℕ). body_at k (bytes ++ more)) (sym is.1) ∙ ap (body_at (length body)) (ap (λ (t : List ℕ). t ++ more) is.0 ∙ append_assoc body rest more) ∙ body_again body (rest ++ more) is.2

pub body_stays : (n : ℕ) (bytes more : List ℕ) → 0 < n → body_at n bytes ≡ Err Differs → body_at n (bytes ++ more) ≡ Err Differs
unfolding body_at
body_stays n bytes more positive e =
    elim (chosen (ltb (length bytes) n) (Err Short) _ (Err Differs) e) [
      | inl short ↦ absurd (short_differs short.1)
      | inr long ↦ elim (chosen (eqb (get_or bytes (n - 1) 0) 1) (Ok (take n bytes, drop n bytes)) (Err Differs) (Err Differs) long.1) [
        | inl hit ↦ absurd (ok_differs (take n bytes, drop n bytes) Differs hit.1)
        | inr miss ↦
            let room : n ≤ length bytes = ltb-false _ _ long.0 in
            let still : ltb (length (bytes ++ more)) n ≡ false = le-ltb _ _ (omega (arith, length-append bytes more)) in
            let same : get_or (bytes ++ more) (n - 1) 0 ≡ get_or bytes (n - 1) 0 = get_or_append_left bytes more 0 (n - 1) (omega arith) in
            rw (still, same, miss.0) refl
      ]
    ]

-- what more it takes to make a body of a size
pub record CompletesBody (n : ℕ) (bytes : List ℕ) : Type 0 where
  pub missing : List ℕ
  pub some : 0 < length missing
  pub size : length (bytes ++ missing) ≡ n
  pub ends : EndsInSoh (bytes ++ missing)

pub body_completes : (n : ℕ) (bytes : List ℕ) → 0 < n → body_at n bytes ≡ Err Short → CompletesBody n bytes
unfolding body_at
body_completes n bytes positive e =
    elim (chosen (ltb (length bytes) n) (Err Short) _ (Err Short) e) [
      | inl short ↦
          let lack : length bytes < n = ltb-true _ _ short.0 in
          let zeros : List ℕ = replicate (n - length bytes - 1) 0 in
          record {
            missing = zeros ++ 1 ∷ [];
            some = omega (arith, length-append zeros (1 ∷ []));
            size = omega (arith, length-append bytes (zeros ++ 1 ∷ []), length-append zeros (1 ∷ []), length-replicate {A = ℕ} (n - length bytes - 1) 0);
            ends = record { front = bytes ++ zeros; ends = sym (append_assoc bytes zeros (1 ∷ [])) };
          }
      | inr long ↦ elim (chosen (eqb (get_or bytes (n - 1) 0) 1) (Ok (take n bytes, drop n bytes)) (Err Differs) (Err Short) long.1) [
        | inl hit ↦ absurd (ok_differs (take n bytes, drop n bytes) Short hit.1)
        | inr miss ↦ absurd (short_differs (sym miss.1))
      ]
    ]
