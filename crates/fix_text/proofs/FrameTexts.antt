-- At each place stands a frame, the beginning of one, or neither, and the reading tells which.
use Rattle.std.proofs.Common.{◌≡◌, ℕ, ◌%◌, ◌<◌, ◌≤◌, Bool, true, false, eqb, List, [], ◌∷◌, ◌++◌, length, sum, Option, Some, None, Result, Ok, Err, refl, sym, ap, subst, ◌∙◌, arith, inl, inr, ◌⊎◌}
use Rattle.std.specs.Prelude.{IsTrue, decimal}
use Rattle.std.specs.List.{list_all}
use Rattle.std.specs.Option.{option_and_then}
use Rattle.std.proofs.lemmas.Bool.{eqb-true, eq-eqb, and_parts}
use Rattle.std.proofs.lemmas.List.{append-nil, length-append, append_cancel_right}
use Rattle.fix_text.specs.declared.parse.NoFrame.{NoFrame}
use Rattle.fix_text.specs.declared.parse.NoFrame.TheVariants.{Short, Differs}
use Rattle.fix_text.specs.Tagged.{Tagged}
use Rattle.fix_text.specs.Text.{field_text, fields_text, begins_with_type, is_writable_tag, has_writable_tags, has_writable_values}
use Rattle.fix_text.specs.Frame.{three_digits, frame_text}
use Rattle.fix_text.specs.Grammar.{header_of, trailer_of, IsLength, IsFrame, IsValidFrame, BeginsWithFrame, IsBeginning, IsNeither}
use Rattle.fix_text.specs.Deciding.{Decides}
use Rattle.fix_text.specs.Reading.{RawFrameParts, fields_of, if_typed, typed_fields, valid_fields, frame_at}
use Rattle.fix_text.proofs.Readers.{chosen, ok_is, frame_takes, frame_again, Spelled}
use Rattle.fix_text.proofs.Prefixes.{ok_differs}
use Rattle.fix_text.proofs.FramePrefixes.{frame_more, frame_stays, frame_completes}
use Rattle.fix_text.proofs.Rewritten.{ends_in_soh, typed_again, is_check-three_digits, is_length-decimal, writable_fields}
use Rattle.fix_text.proofs.FieldTexts.{some_is, none_given, fields_take, check_written}

-- ---- frames

pub spelled_frame : (text : List ℕ) (whole : RawFrameParts) → Spelled text whole → IsFrame text
spelled_frame text whole s = record { digits = s.digits; body = whole.body; check = s.check; number = whole.check; bytes_are = s.text_is; length_is = s.is_length; body_ends = s.is_body; check_is = s.is_check }

-- a frame is read whole, whatever follows it
pub frame_read_whole : (text rest : List ℕ) → IsFrame text → (whole : RawFrameParts) × (frame_at (text ++ rest) ≡ Ok whole) × (whole.rest ≡ rest)
frame_read_whole text rest f =
    let before : List ℕ = header_of f.digits ++ f.body in (
      record { before = before; body = f.body; check = f.number; rest = rest },
      ap (λ (t : List ℕ). frame_at (t ++ rest)) f.bytes_are ∙ frame_again f.digits f.body f.check rest f.number f.length_is f.body_ends f.check_is,
      refl,
    )

-- bytes that begin with a frame are read as one
pub begins_read : (bytes : List ℕ) → BeginsWithFrame bytes → (whole : RawFrameParts) × (frame_at bytes ≡ Ok whole)
begins_read bytes b =
    let read = frame_read_whole b.frame b.rest b.is_frame in
    (read.0, ap frame_at b.parts ∙ read.1)

-- ---- the three cases of a place

-- bytes that are the beginning of a frame are read as such
beginning_place : (bytes more : List ℕ) (place : Result RawFrameParts NoFrame) → place ≡ frame_at bytes → 0 < length more → IsFrame (bytes ++ more) → place ≡ Err Short
beginning_place bytes more (Ok whole) is some f =
    let here = frame_more bytes more whole (sym is) in
    let read = frame_read_whole (bytes ++ more) [] f in
    let there : frame_at (bytes ++ more) ≡ Ok read.0 = ap frame_at (sym (append-nil (bytes ++ more))) ∙ read.1 in
    let left : whole.rest ++ more ≡ [] = ap (λ (w : RawFrameParts). w.rest) (ok_is (record whole { rest = whole.rest ++ more }) read.0 (sym here ∙ there)) ∙ read.2 in
    absurd (omega (arith, some, ap length left, length-append whole.rest more))
beginning_place bytes more (Err Short) is some f = refl
beginning_place bytes more (Err Differs) is some f =
    let read = frame_read_whole (bytes ++ more) [] f in
    let there : frame_at (bytes ++ more) ≡ Ok read.0 = ap frame_at (sym (append-nil (bytes ++ more))) ∙ read.1 in
    absurd (ok_differs read.0 Differs (sym there ∙ frame_stays bytes more (sym is)))

pub beginning_read : (bytes : List ℕ) → IsBeginning bytes → frame_at bytes ≡ Err Short
beginning_read bytes b = beginning_place bytes b.more (frame_at bytes) refl b.some b.is_frame

not_short : (whole : RawFrameParts) → ◌≡◌ {A = Result RawFrameParts NoFrame} (Ok whole) (Err Short) → ⊥
not_short whole e = cc

short_is_not : ◌≡◌ {A = Result RawFrameParts NoFrame} (Err Differs) (Err Short) → ⊥
short_is_not e = cc

decided : (bytes : List ℕ) (place : Result RawFrameParts NoFrame) → place ≡ frame_at bytes → Decides bytes place
decided bytes (Ok whole) is =
    let t = frame_takes bytes whole (sym is) in
    (t.0, spelled_frame t.0 whole t.1, t.2, λ b. not_short whole (is ∙ beginning_read bytes b))
decided bytes (Err Short) is =
    let m = frame_completes bytes (sym is) in
    (record { more = m.0; some = m.1; is_frame = m.2 }, λ b. let read = begins_read bytes b in ok_differs read.0 Short (sym read.1 ∙ sym is))
decided bytes (Err Differs) is =
    (λ b. let read = begins_read bytes b in ok_differs read.0 Differs (sym read.1 ∙ sym is), λ b. short_is_not (is ∙ beginning_read bytes b))

-- what the reading says of a place is so
pub place_decided : (bytes : List ℕ) → Decides bytes (frame_at bytes)
place_decided bytes = decided bytes (frame_at bytes) refl

-- ---- valid frames

-- a valid frame is read as one of its fields, whatever follows it
pub valid_read : (text rest : List ℕ) (fields : List Tagged) → IsValidFrame text fields → (whole : RawFrameParts) × (frame_at (text ++ rest) ≡ Ok whole) × (valid_fields whole ≡ Some fields) × (whole.rest ≡ rest)
unfolding valid_fields
valid_read text rest [] v = absurd (true_is v.typed) where
  true_is : ◌≡◌ {A = Bool} false true → ⊥
  true_is e = cc
valid_read text rest (field ∷ fields) v =
    let body : List ℕ = fields_text (field ∷ fields) in
    let before : List ℕ = header_of v.digits ++ body in
    let check : ℕ = sum before % 256 in
    let whole : RawFrameParts = record { before = before; body = body; check = check; rest = rest } in
    let again = frame_again v.digits body (three_digits check) rest check v.length_is (ends_in_soh field fields) (is_check-three_digits check (omega arith)) in
    let same : eqb check check ≡ true = eq-eqb _ _ refl in
    (whole, ap (λ (t : List ℕ). frame_at (t ++ rest)) v.bytes_are ∙ again, rw same (typed_again (field ∷ fields) v.fields_are v.typed), refl)

-- a valid frame is a frame
pub valid_frame : (text : List ℕ) (fields : List Tagged) → IsValidFrame text fields → IsFrame text
valid_frame text [] v = absurd (true_is v.typed) where
  true_is : ◌≡◌ {A = Bool} false true → ⊥
  true_is e = cc
valid_frame text (field ∷ fields) v = record {
  digits = v.digits;
  body = fields_text (field ∷ fields);
  check = three_digits (sum (header_of v.digits ++ fields_text (field ∷ fields)) % 256);
  number = sum (header_of v.digits ++ fields_text (field ∷ fields)) % 256;
  bytes_are = v.bytes_are;
  length_is = v.length_is;
  body_ends = ends_in_soh field fields;
  check_is = is_check-three_digits (sum (header_of v.digits ++ fields_text (field ∷ fields)) % 256) (omega arith);
}

typed_takes : (read : Option (List Tagged)) (fields : List Tagged) → option_and_then if_typed read ≡ Some fields → (read ≡ Some fields) × IsTrue (begins_with_type fields)
typed_takes None fields e = absurd (none_given fields e)
typed_takes (Some later) fields e =
    elim (chosen (begins_with_type later) (Some later) None (Some fields) e) [
      | inl hit ↦ (hit.1, subst (λ (fs : List Tagged). IsTrue (begins_with_type fs)) (some_is later fields hit.1) hit.0)
      | inr miss ↦ absurd (none_given fields miss.1)
    ]

-- what is read as a valid frame is one
pub valid_takes : (text : List ℕ) (whole : RawFrameParts) (fields : List Tagged) → Spelled text whole → valid_fields whole ≡ Some fields → IsValidFrame text fields
unfolding valid_fields typed_fields
valid_takes text whole fields s e =
    elim (chosen (eqb (sum whole.before % 256) whole.check) (typed_fields whole.body) None (Some fields) e) [
      | inl hit ↦
          let typed = typed_takes (fields_of whole.body) fields hit.1 in
          let are = fields_take whole.body fields typed.0 in
          let check : sum whole.before % 256 ≡ whole.check = eqb-true _ _ hit.0 in
          let before : whole.before ≡ header_of s.digits ++ fields_text fields = s.before_is ∙ ap (λ (t : List ℕ). header_of s.digits ++ t) are.0 in
          let sum_is : whole.check ≡ sum (header_of s.digits ++ fields_text fields) % 256 = sym check ∙ ap (λ (t : List ℕ). sum t % 256) before in
          record {
            digits = s.digits;
            bytes_are = s.text_is ∙ ap (λ (t : List ℕ). (header_of s.digits ++ t) ++ trailer_of s.check) are.0 ∙ ap (λ (c : List ℕ). (header_of s.digits ++ fields_text fields) ++ trailer_of c) (check_written s.check whole.check s.is_check ∙ ap three_digits sum_is);
            length_is = subst (λ (t : List ℕ). IsLength s.digits (length t)) are.0 s.is_length;
            typed = typed.1;
            fields_are = are.1;
          }
      | inr miss ↦ absurd (none_given fields miss.1)
    ]

-- the fields of a valid frame are determined
pub valid_unique : (text : List ℕ) (a b : List Tagged) → IsValidFrame text a → IsValidFrame text b → a ≡ b
valid_unique text a b va vb =
    let ra = valid_read text [] a va in
    let rb = valid_read text [] b vb in
    let same : ra.0 ≡ rb.0 = ok_is ra.0 rb.0 (sym ra.1 ∙ rb.1) in
    some_is a b (sym ra.2 ∙ ap valid_fields same ∙ rb.2)

-- the frame at the front of some bytes is determined
pub frame_unique : (a b rest more : List ℕ) → IsFrame a → IsFrame b → a ++ rest ≡ b ++ more → (a ≡ b) × (rest ≡ more)
frame_unique a b rest more fa fb e =
    let ra = frame_read_whole a rest fa in
    let rb = frame_read_whole b more fb in
    let same : ra.0 ≡ rb.0 = ok_is ra.0 rb.0 (sym ra.1 ∙ ap frame_at e ∙ rb.1) in
    let left : rest ≡ more = sym ra.2 ∙ ap (λ (w : RawFrameParts). w.rest) same ∙ rb.2 in
    (append_cancel_right a b more (ap (λ (t : List ℕ). a ++ t) (sym left) ∙ e), left)

-- ---- the three cases, by themselves

three : (bytes : List ℕ) (place : Result RawFrameParts NoFrame) → Decides bytes place → BeginsWithFrame bytes ⊎ (IsBeginning bytes ⊎ IsNeither bytes)
three bytes (Ok whole) d = inl (record { frame = d.0; rest = whole.rest; parts = d.2; is_frame = d.1 })
three bytes (Err Short) d = inr (inl d.0)
three bytes (Err Differs) d = inr (inr (record { no_frame = d.0; no_beginning = d.1 }))

pub one_of_three : (bytes : List ℕ) → BeginsWithFrame bytes ⊎ (IsBeginning bytes ⊎ IsNeither bytes)
one_of_three bytes = three bytes (frame_at bytes) (place_decided bytes)

pub never_both : (bytes : List ℕ) → BeginsWithFrame bytes → IsBeginning bytes → ⊥
never_both bytes f b = let read = begins_read bytes f in ok_differs read.0 Short (sym read.1 ∙ beginning_read bytes b)

-- a written frame is a valid one
pub written_valid : (fields : List Tagged) → IsTrue (has_writable_tags fields) → IsTrue (has_writable_values fields) → length (fields_text fields) ≤ 4096 → IsValidFrame (frame_text fields) fields
written_valid [] tags values short = absurd cc
written_valid (field ∷ fields) tags values short =
    let typed = and_parts (begins_with_type (field ∷ fields)) (list_all (λ field. is_writable_tag field.tag) (field ∷ fields)) tags in
    let size : ℕ = length (fields_text (field ∷ fields)) in
    let positive : 0 < size = omega (arith, length-append (field_text field) (fields_text fields), length-append (decimal field.tag ++ 61 ∷ field.value) (1 ∷ [])) in
    record { digits = decimal size; bytes_are = refl; length_is = is_length-decimal size positive short; typed = typed.0; fields_are = writable_fields (field ∷ fields) typed.1 values }
