-- A frame, as its parts: more bytes change nothing that was decided, and what is short can be made whole.
use Rattle.std.proofs.Common.{◌≡◌, ℕ, ◌-◌, ◌<◌, List, [], ◌∷◌, ◌++◌, length, take, replicate, Result, Ok, Err, refl, sym, ap, subst, ◌∙◌, arith, append_assoc, inl, inr}
use Rattle.std.proofs.lemmas.List.{length-append, length-replicate}
use Rattle.fix_text.specs.Then.{◌>>=◌}
use Rattle.fix_text.specs.declared.parse.NoFrame.{NoFrame}
use Rattle.fix_text.specs.declared.parse.NoFrame.TheVariants.{Short, Differs}
use Rattle.fix_text.specs.Grammar.{digits_number, IsLength, IsCheck, EndsInSoh, IsFrame, opening, header_of, trailer_of}
use Rattle.fix_text.specs.Reading.{literal_at, length_at, body_at, trailer_at, frame_at, RawFrameParts}
use Rattle.fix_text.proofs.Readers.{literal_takes, length_takes, body_takes, length_step, body_step, end_step, frame_takes, frame_again, is_length_from, Completes, Spelled}
use Rattle.fix_text.proofs.Prefixes.{bind_err, ok_differs, literal_more, literal_stays, literal_completes, length_more, length_stays, length_completes, body_more, body_stays, body_completes}
use Rattle.fix_text.proofs.TrailerPrefixes.{trailer_stays, trailer_completes, three_is}

-- ---- what is whole

spelled_again : (text : List ℕ) (whole : RawFrameParts) (rest : List ℕ) → Spelled text whole → frame_at (text ++ rest) ≡ Ok (record whole { rest = rest })
spelled_again text whole rest s =
    ap (λ (t : List ℕ). frame_at (t ++ rest)) s.text_is
    ∙ frame_again s.digits whole.body s.check rest whole.check s.is_length s.is_body s.is_check
    ∙ ap (λ (before : List ℕ). Ok (record { before = before; body = whole.body; check = whole.check; rest = rest })) (sym s.before_is)

pub frame_more : (bytes more : List ℕ) (whole : RawFrameParts) → frame_at bytes ≡ Ok whole → frame_at (bytes ++ more) ≡ Ok (record whole { rest = whole.rest ++ more })
frame_more bytes more whole e =
    let t = frame_takes bytes whole e in
    ap frame_at (ap (λ (x : List ℕ). x ++ more) t.2 ∙ append_assoc t.0 whole.rest more) ∙ spelled_again t.0 whole (whole.rest ++ more) t.1

-- ---- what differs

end_stays : (bytes other : List ℕ) (body : List ℕ × List ℕ) (more : List ℕ) → end_step bytes body ≡ Err Differs → end_step other (body.0, body.1 ++ more) ≡ Err Differs
end_stays bytes other body more e =
    elim (bind_err (trailer_at body.1) (λ (trailer : ℕ × List ℕ). Ok (record { before = take (length bytes - length body.1) bytes; body = body.0; check = trailer.0; rest = trailer.1 })) Differs e) [
      | inl here ↦ ap (λ (r : Result (ℕ × List ℕ) NoFrame). r >>= λ trailer. Ok (record { before = take (length other - length (body.1 ++ more)) other; body = body.0; check = trailer.0; rest = trailer.1 })) (trailer_stays body.1 more here)
      | inr later ↦ absurd (ok_differs _ Differs later.2)
    ]

body_step_stays : (bytes other : List ℕ) (size : ℕ × List ℕ) (more : List ℕ) → 0 < size.0 → body_step bytes size ≡ Err Differs → body_step other (size.0, size.1 ++ more) ≡ Err Differs
body_step_stays bytes other size more positive e =
    elim (bind_err (body_at size.0 size.1) (end_step bytes) Differs e) [
      | inl here ↦ ap (λ (r : Result (List ℕ × List ℕ) NoFrame). r >>= end_step other) (body_stays size.0 size.1 more positive here)
      | inr later ↦ ap (λ (r : Result (List ℕ × List ℕ) NoFrame). r >>= end_step other) (body_more size.0 size.1 later.0.0 later.0.1 more positive later.1) ∙ end_stays bytes other later.0 more later.2
    ]

length_step_stays : (bytes other digits more : List ℕ) → length_step bytes digits ≡ Err Differs → length_step other (digits ++ more) ≡ Err Differs
length_step_stays bytes other digits more e =
    elim (bind_err (length_at 6 0 digits) (body_step bytes) Differs e) [
      | inl here ↦ ap (λ (r : Result (ℕ × List ℕ) NoFrame). r >>= body_step other) (length_stays 6 0 digits more here)
      | inr later ↦
          let is = length_takes 6 0 digits later.0.0 later.0.1 later.1 in
          ap (λ (r : Result (ℕ × List ℕ) NoFrame). r >>= body_step other) (length_more 6 0 digits later.0.0 later.0.1 more later.1) ∙ body_step_stays bytes other later.0 more is.2.positive later.2
    ]

pub frame_stays : (bytes more : List ℕ) → frame_at bytes ≡ Err Differs → frame_at (bytes ++ more) ≡ Err Differs
unfolding frame_at
frame_stays bytes more e =
    elim (bind_err (literal_at opening bytes) (length_step bytes) Differs e) [
      | inl here ↦ ap (λ (r : Result (List ℕ) NoFrame). r >>= length_step (bytes ++ more)) (literal_stays opening bytes more here)
      | inr later ↦ ap (λ (r : Result (List ℕ) NoFrame). r >>= length_step (bytes ++ more)) (literal_more opening bytes later.0 more later.1) ∙ length_step_stays bytes (bytes ++ more) later.0 more later.2
    ]

-- ---- what is short

-- what more it takes to make a frame, behind its opening
pub record CompletesFrame (bytes : List ℕ) : Type 0 where
  pub missing : List ℕ
  pub some : 0 < length missing
  pub digits : List ℕ
  pub body : List ℕ
  pub check : List ℕ
  pub number : ℕ
  pub whole : bytes ++ missing ≡ digits ++ 1 ∷ (body ++ trailer_of check)
  pub is_length : IsLength digits (length body)
  pub is_body : EndsInSoh body
  pub is_check : IsCheck check number

-- the digits that end what is made up
zeros_are : IsCheck (48 ∷ 48 ∷ 48 ∷ []) (digits_number (48 ∷ 48 ∷ 48 ∷ []))
zeros_are = three_is 0 0 0 (omega arith) (omega arith) (omega arith)

body_step_completes : (bytes digits : List ℕ) (size : ℕ × List ℕ) → Completes 6 0 size.0 digits → body_step bytes size ≡ Err Short → CompletesFrame (digits ++ 1 ∷ size.1)
body_step_completes bytes digits size h e =
    elim (bind_err (body_at size.0 size.1) (end_step bytes) Short e) [
      | inl here ↦
          let m = body_completes size.0 size.1 h.positive here in
          let end : List ℕ = trailer_of (48 ∷ 48 ∷ 48 ∷ []) in
          record {
            missing = m.missing ++ end;
            some = omega (arith, m.some, length-append m.missing end);
            digits = digits;
            body = size.1 ++ m.missing;
            check = 48 ∷ 48 ∷ 48 ∷ [];
            number = _;
            whole = append_assoc digits (1 ∷ size.1) (m.missing ++ end) ∙ ap (λ (t : List ℕ). digits ++ 1 ∷ t) (sym (append_assoc size.1 m.missing end));
            is_length = rw m.size (is_length_from digits size.0 h);
            is_body = m.ends;
            is_check = zeros_are;
          }
      | inr later ↦ elim (bind_err (trailer_at later.0.1) (λ (trailer : ℕ × List ℕ). Ok (record { before = take (length bytes - length later.0.1) bytes; body = later.0.0; check = trailer.0; rest = trailer.1 })) Short later.2) [
        | inl short ↦
            let is = body_takes size.0 size.1 later.0.0 later.0.1 h.positive later.1 in
            let m = trailer_completes later.0.1 short in
            record {
              missing = m.missing;
              some = m.some;
              digits = digits;
              body = later.0.0;
              check = m.digits;
              number = m.number;
              whole = append_assoc digits (1 ∷ size.1) m.missing ∙ ap (λ (t : List ℕ). digits ++ 1 ∷ t) (ap (λ (t : List ℕ). t ++ m.missing) is.0 ∙ append_assoc later.0.0 later.0.1 m.missing ∙ ap (λ (t : List ℕ). later.0.0 ++ t) m.whole);
              is_length = rw is.1 (is_length_from digits size.0 h);
              is_body = is.2;
              is_check = m.is_check;
            }
        | inr never ↦ absurd (ok_differs _ Short never.2)
      ]
    ]

length_step_completes : (bytes digits : List ℕ) → length_step bytes digits ≡ Err Short → CompletesFrame digits
length_step_completes bytes digits e =
    elim (bind_err (length_at 6 0 digits) (body_step bytes) Short e) [
      | inl here ↦
          let m = length_completes 6 0 digits here in
          let end : List ℕ = trailer_of (48 ∷ 48 ∷ 48 ∷ []) in
          let front : List ℕ = replicate (m.size - 1) 0 in
          let body : List ℕ = front ++ 1 ∷ [] in
          let size : length body ≡ m.size = omega (arith, m.completes.positive, length-append front (1 ∷ []), length-replicate {A = ℕ} (m.size - 1) 0) in
          record {
            missing = m.missing ++ (body ++ end);
            some = omega (arith, m.some, length-append m.missing (body ++ end));
            digits = m.digits;
            body = body;
            check = 48 ∷ 48 ∷ 48 ∷ [];
            number = _;
            whole = sym (append_assoc digits m.missing (body ++ end)) ∙ ap (λ (t : List ℕ). t ++ (body ++ end)) m.whole ∙ append_assoc m.digits (1 ∷ []) (body ++ end);
            is_length = rw size (is_length_from m.digits m.size m.completes);
            is_body = record { front = front; ends = refl };
            is_check = zeros_are;
          }
      | inr later ↦
          let is = length_takes 6 0 digits later.0.0 later.0.1 later.1 in
          subst CompletesFrame (sym is.1) (body_step_completes bytes is.0 later.0 is.2 later.2)
    ]

one_is : IsLength (49 ∷ []) 1
one_is = record { few = omega arith; each = refl; value = refl; positive = omega arith; bound = omega arith }

opened : (digits body check : List ℕ) → opening ++ (digits ++ 1 ∷ (body ++ trailer_of check)) ≡ (header_of digits ++ body) ++ trailer_of check
opened digits body check = regroup opening digits body (trailer_of check) where
  regroup : (o d b t : List ℕ) → o ++ (d ++ 1 ∷ (b ++ t)) ≡ ((o ++ (d ++ 1 ∷ [])) ++ b) ++ t
  regroup o d b t = simp append_assoc

-- more bytes, at least one, with which these are a frame
pub frame_completes : (bytes : List ℕ) → frame_at bytes ≡ Err Short → (more : List ℕ) × (0 < length more) × IsFrame (bytes ++ more)
unfolding frame_at
frame_completes bytes e =
    elim (bind_err (literal_at opening bytes) (length_step bytes) Short e) [
      | inl here ↦
          let m = literal_completes opening bytes here in
          let end : List ℕ = 49 ∷ 1 ∷ 1 ∷ trailer_of (48 ∷ 48 ∷ 48 ∷ []) in (
            m.0 ++ end,
            omega (arith, m.1, length-append m.0 end),
            record {
              digits = 49 ∷ [];
              body = 1 ∷ [];
              check = 48 ∷ 48 ∷ 48 ∷ [];
              number = _;
              bytes_are = sym (append_assoc bytes m.0 end) ∙ ap (λ (t : List ℕ). t ++ end) m.2;
              length_is = one_is;
              body_ends = record { front = []; ends = refl };
              check_is = zeros_are;
            },
          )
      | inr later ↦
          let is = literal_takes opening bytes later.0 later.1 in
          let m = length_step_completes bytes later.0 later.2 in (
            m.missing,
            m.some,
            record {
              digits = m.digits;
              body = m.body;
              check = m.check;
              number = m.number;
              bytes_are = ap (λ (t : List ℕ). t ++ m.missing) is ∙ append_assoc opening later.0 m.missing ∙ ap (λ (t : List ℕ). opening ++ t) m.whole ∙ opened m.digits m.body m.check;
              length_is = m.is_length;
              body_ends = m.is_body;
              check_is = m.is_check;
            },
          )
    ]
