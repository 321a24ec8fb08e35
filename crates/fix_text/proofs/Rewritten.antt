-- What is written is read again, whatever follows it.
use Rattle.std.proofs.Common.{◌≡◌, ℕ, ◌+◌, ◌-◌, ◌*◌, ◌/◌, ◌%◌, ◌^◌, ◌<◌, ◌≤◌, true, false, eqb, ltb, leb, List, [], ◌∷◌, ◌++◌, length, get_or, sum, Option, Some, Ok, refl, sym, ap, ◌∙◌, arith, rules, append_assoc}
use Rattle.std.specs.Prelude.{IsTrue, not, decimal}
use Rattle.std.specs.Char.{is_ascii_digit}
use Rattle.std.specs.Str.{all_ascii_digits}
use Rattle.std.specs.List.{list_all}
use Rattle.std.specs.Option.{option_and_then}
use Rattle.std.proofs.lemmas.Bool.{and_parts, and_from, or_parts, or_from, leb-true, ltb-true, lt-ltb, le-leb, ne_eqb, eq-eqb, not-true}
use Rattle.std.proofs.lemmas.List.{length-append, append-nil}
use Rattle.std.proofs.lemmas.Str.Parse.{IsNumeralModel, numerals_by_fold, tells_all_ascii_digits}
use Rattle.std.proofs.lemmas.Fmt.{digits_decimal, digits_value-decimal, first_decimal, decimal_nonempty, length-decimal-le}
use Rattle.fix_text.specs.Tagged.{Tagged}
use Rattle.fix_text.specs.Text.{field_text, fields_text, holds_soh, is_writable_tag, is_writable_value, begins_with_type, has_writable_tags, has_writable_values}
use Rattle.fix_text.specs.Frame.{three_digits, header_text, trailer_text, frame_text}
use Rattle.fix_text.specs.Grammar.{number_after, digits_number, header_of, trailer_of, IsLength, IsCheck, EndsInSoh, IsField, AreFields}
use Rattle.fix_text.specs.Reading.{RawFrameParts, Stream, field_from, field_of, fields_of, parts_of, fields_of_parts, with_field, if_typed, typed_fields, valid_fields, frame_at, at_frame, at_place, next_read, BeginsWritten}
use Rattle.fix_text.proofs.Readers.{number_after-ge, digit_range, digit_is, frame_again}
use Rattle.fix_text.proofs.FieldLists.{fields_of-part}
use Rattle.fix_text.proofs.Turns.{next_turn}

-- ---- digits

-- our words for texts of digits and their numbers
pub own : IsNumeralModel (λ ds. IsTrue (all_ascii_digits ds)) (number_after 0)
own = numerals_by_fold _ tells_all_ascii_digits number_after (search rules)

pub decimal_digits : (n : ℕ) → n < 2 ^ 64 → IsTrue (all_ascii_digits (decimal n))
decimal_digits n h = digits_decimal own n h

pub decimal_number : (n : ℕ) → n < 2 ^ 64 → digits_number (decimal n) ≡ n
decimal_number n h = digits_value-decimal own n h

-- digits are no SOH
pub digits_no_soh : (digits : List ℕ) → IsTrue (all_ascii_digits digits) → holds_soh digits ≡ false
digits_no_soh [] h = refl
digits_no_soh (d ∷ digits) h =
    let split = and_parts (is_ascii_digit d) (all_ascii_digits digits) h in
    let range = digit_range d split.0 in
    or_from (eqb d 1) (holds_soh digits) (ne_eqb _ _ (λ (is : d ≡ 1). omega (arith, range.0))) (digits_no_soh digits split.1)

pub holds_soh-append : (a b : List ℕ) → holds_soh a ≡ false → holds_soh b ≡ false → holds_soh (a ++ b) ≡ false
holds_soh-append [] b h k = k
holds_soh-append (x ∷ a) b h k =
    let split = or_parts (eqb x 1) (holds_soh a) h in
    or_from (eqb x 1) (holds_soh (a ++ b)) split.0 (holds_soh-append a b split.1 k)

-- ---- a field

-- digits behind those of a number that isn't 0
field_from-digits : (n : ℕ) (digits value : List ℕ) → IsTrue (all_ascii_digits digits) → 0 < n → number_after n digits ≤ 999999 → field_from n (digits ++ 61 ∷ value) ≡ Some (record { tag = number_after n digits; value = value })
unfolding field_from
field_from-digits n [] value h positive bound =
    let some : ltb 0 n ≡ true = lt-ltb _ _ positive in
    rw some refl
field_from-digits n (d ∷ digits) value h positive bound =
    let split = and_parts (is_ascii_digit d) (all_ascii_digits digits) h in
    let range = digit_range d split.0 in
    let other : eqb d 61 ≡ false = ne_eqb _ _ (λ (is : d ≡ 61). omega (arith, range.1)) in
    let more : ltb 0 (10 * n + (d - 48)) ≡ true = lt-ltb _ _ (omega arith) in
    let fits : leb (10 * n + (d - 48)) 999999 ≡ true = le-leb _ _ (omega (arith, number_after-ge (10 * n + (d - 48)) digits)) in
    rw (other, split.0, more, fits) (field_from-digits (10 * n + (d - 48)) digits value split.1 (omega arith) bound)

-- digits of which the first isn't 0
field_of-digits : (digits value : List ℕ) → IsTrue (all_ascii_digits digits) → 0 < length digits → 48 < get_or digits 0 0 → digits_number digits ≤ 999999 → field_of (digits ++ 61 ∷ value) ≡ Some (record { tag = digits_number digits; value = value })
unfolding field_from
field_of-digits [] value h some first bound = absurd (omega arith)
field_of-digits (d ∷ digits) value h some first bound =
    let split = and_parts (is_ascii_digit d) (all_ascii_digits digits) h in
    let range = digit_range d split.0 in
    let other : eqb d 61 ≡ false = ne_eqb _ _ (λ (is : d ≡ 61). omega (arith, range.1)) in
    let more : ltb 0 (10 * 0 + (d - 48)) ≡ true = lt-ltb _ _ (omega (arith, first)) in
    let fits : leb (10 * 0 + (d - 48)) 999999 ≡ true = le-leb _ _ (omega (arith, number_after-ge (10 * 0 + (d - 48)) digits, bound)) in
    rw (other, split.0, more, fits) (field_from-digits (10 * 0 + (d - 48)) digits value split.1 (omega (arith, first)) bound)

pub field_of-decimal : (tag : ℕ) (value : List ℕ) → 0 < tag → tag ≤ 999999 → field_of (decimal tag ++ 61 ∷ value) ≡ Some (record { tag = tag; value = value })
field_of-decimal tag value positive bound =
    let small : tag < 2 ^ 64 = omega arith in
    let is = decimal_number tag small in
    field_of-digits (decimal tag) value (decimal_digits tag small) (decimal_nonempty tag small) (first_decimal tag positive small) (omega (arith, is))
    ∙ ap (λ (n : ℕ). Some (record { tag = n; value = value })) is

part_no_soh : (field : Tagged) → IsField field → holds_soh (decimal field.tag ++ 61 ∷ field.value) ≡ false
part_no_soh field h = holds_soh-append (decimal field.tag) (61 ∷ field.value) (digits_no_soh (decimal field.tag) (decimal_digits field.tag (omega (arith, h.bound)))) h.value

pub fields_again : (fields : List Tagged) → AreFields fields → fields_of (fields_text fields) ≡ Some fields
unfolding fields_of parts_of fields_of_parts
fields_again [] h = refl
fields_again (field ∷ fields) h =
    let part : List ℕ = decimal field.tag ++ 61 ∷ field.value in
    ap fields_of (append_assoc part (1 ∷ []) (fields_text fields))
    ∙ fields_of-part part (fields_text fields) (part_no_soh field h.0)
    ∙ ap (λ (f : Option Tagged). with_field f (fields_of (fields_text fields))) (field_of-decimal field.tag field.value h.0.positive h.0.bound)
    ∙ ap (with_field (Some field)) (fields_again fields h.1)

-- ---- a frame

pub header_is : (n : ℕ) → header_text n ≡ header_of (decimal n)
header_is n = refl

pub is_length-decimal : (n : ℕ) → 0 < n → n ≤ 4096 → IsLength (decimal n) n
is_length-decimal n positive bound =
    let small : n < 2 ^ 64 = omega arith in
    record { few = length-decimal-le 6 n (omega arith) (omega arith) small; each = decimal_digits n small; value = decimal_number n small; positive = positive; bound = bound }

pub is_check-three_digits : (n : ℕ) → n < 1000 → IsCheck (three_digits n) n
is_check-three_digits n h = record {
  three = refl;
  each = and_from _ _ (digit_is (n / 100) (omega arith)) (and_from _ _ (digit_is (n / 10 % 10) (omega arith)) (and_from _ _ (digit_is (n % 10) (omega arith)) refl));
  value = omega arith;
}

pub ends_in_soh : (field : Tagged) (fields : List Tagged) → EndsInSoh (fields_text (field ∷ fields))
ends_in_soh field [] = record { front = decimal field.tag ++ 61 ∷ field.value; ends = append-nil (field_text field) }
ends_in_soh field (next ∷ fields) =
    let later = ends_in_soh next fields in
    record { front = field_text field ++ later.front; ends = ap (λ (t : List ℕ). field_text field ++ t) later.ends ∙ sym (append_assoc (field_text field) later.front (1 ∷ [])) }

-- the fields of a body, of which the first is MsgType (35)
pub typed_again : (fields : List Tagged) → AreFields fields → IsTrue (begins_with_type fields) → typed_fields (fields_text fields) ≡ Some fields
unfolding typed_fields
typed_again fields h typed = ap (option_and_then if_typed) (fields_again fields h) ∙ rw typed refl

pub frame_read : (fields : List Tagged) (rest : List ℕ) → AreFields fields → IsTrue (begins_with_type fields) → length (fields_text fields) ≤ 4096
    → (whole : RawFrameParts) × (frame_at (frame_text fields ++ rest) ≡ Ok whole) × (valid_fields whole ≡ Some fields) × (whole.rest ≡ rest)
unfolding valid_fields
frame_read [] rest h typed short = absurd cc
frame_read (field ∷ fields) rest h typed short =
    let body : List ℕ = fields_text (field ∷ fields) in
    let size : ℕ = length body in
    let before : List ℕ = header_of (decimal size) ++ body in
    let check : ℕ = sum before % 256 in
    let whole : RawFrameParts = record { before = before; body = body; check = check; rest = rest } in
    let written : frame_text (field ∷ fields) ≡ before ++ trailer_of (three_digits check) = ap (λ (header : List ℕ). (header ++ body) ++ trailer_text (header ++ body)) (header_is size) in
    let positive : 0 < size = omega (arith, length-append (field_text field) (fields_text fields), length-append (decimal field.tag ++ 61 ∷ field.value) (1 ∷ [])) in
    let again = frame_again (decimal size) body (three_digits check) rest check (is_length-decimal size positive short) (ends_in_soh field fields) (is_check-three_digits check (omega arith)) in
    let same : eqb check check ≡ true = eq-eqb _ _ refl in
    (whole, ap (λ (t : List ℕ). frame_at (t ++ rest)) written ∙ again, rw same (typed_again (field ∷ fields) h typed), refl)

-- ---- what can be written can be read

writable_field : (field : Tagged) → IsTrue (is_writable_tag field.tag) → IsTrue (is_writable_value field.value) → IsField field
writable_field field tag value =
    let not_ten = and_parts _ (not (eqb field.tag 10)) tag in
    let not_nine = and_parts _ (not (eqb field.tag 9)) not_ten.0 in
    let not_eight = and_parts _ (not (eqb field.tag 8)) not_nine.0 in
    let range = and_parts (ltb 0 field.tag) (leb field.tag 999999) not_eight.0 in
    let parts = and_parts _ (not (holds_soh field.value)) value in
    record { positive = ltb-true _ _ range.0; bound = leb-true _ _ range.1; value = not-true (holds_soh field.value) parts.1 }

pub writable_fields : (fields : List Tagged) → IsTrue (list_all (λ field. is_writable_tag field.tag) fields) → IsTrue (has_writable_values fields) → AreFields fields
writable_fields [] tags values = tt
writable_fields (field ∷ fields) tags values =
    let tag = and_parts (is_writable_tag field.tag) (list_all (λ field. is_writable_tag field.tag) fields) tags in
    let value = and_parts (is_writable_value field.value) (has_writable_values fields) values in
    (writable_field field tag.0 value.0, writable_fields fields tag.1 value.1)

-- the next frame of a stream that begins with a written one
pub next_written : (fields : List Tagged) (rest : List ℕ) (skipped garbled : ℕ) → IsTrue (has_writable_tags fields) → IsTrue (has_writable_values fields) → length (fields_text fields) ≤ 4096
    → next_read (record { rest = frame_text fields ++ rest; skipped = skipped; garbled = garbled }) ≡ record { frame = Some fields; stream = record { rest = rest; skipped = skipped; garbled = garbled } }
next_written fields rest skipped garbled tags values short =
    let stream : Stream = record { rest = frame_text fields ++ rest; skipped = skipped; garbled = garbled } in
    let typed = and_parts (begins_with_type fields) (list_all (λ field. is_writable_tag field.tag) fields) tags in
    let read = frame_read fields rest (writable_fields fields typed.1 values) typed.0 short in
    next_turn stream ∙ ap (at_place next_read stream) read.1 ∙ ap (at_frame next_read stream read.0) read.2
    ∙ ap (λ (left : List ℕ). record { frame = Some fields; stream = record { rest = left; skipped = skipped; garbled = garbled } }) read.3

pub next_begins : (stream : Stream) (fields : List Tagged) (rest : List ℕ) → BeginsWritten stream fields rest → next_read stream ≡ record { frame = Some fields; stream = record stream { rest = rest } }
next_begins stream fields rest begins =
    ap (λ (bytes : List ℕ). next_read (record stream { rest = bytes })) begins.bytes ∙ next_written fields rest stream.skipped stream.garbled begins.tags begins.values begins.short
