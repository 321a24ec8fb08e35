-- An application message of up to 3,000 bytes of fields can be written under any header.
use Rattle.std.proofs.Common.{◌≡◌, ℕ, ◌+◌, ◌^◌, ◌<◌, ◌≤◌, Bool, true, false, List, [], ◌∷◌, ◌++◌, length, None, nat_lt, nat_le, decimal, codes, refl, ◌∙◌, ap, arith}
use Rattle.std.proofs.lemmas.Bool.{and_parts}
use Rattle.std.proofs.lemmas.Bool.Decides.{nat_tests}
use Rattle.std.proofs.Math.ListN.{length-append}
use Rattle.fix_text.specs.Tagged.{Tagged}
use Rattle.fix_text.specs.Text.{field_text, fields_text}
use Rattle.fix_text.proofs.Lengths.{length-field_text}
use Rattle.fix_tags.specs.App.{is_app_field, are_app_fields}
use Rattle.fix_tags.specs.CompId.{IsCompId}
use Rattle.fix_tags.specs.Message.{field, number_field, header_fields, body_fields, envelope_fields, kind_of, is_app_kind, is_message_number, app_fault, unless_ok, ◌or_then◌, kind_fault, body_fault, field_fault, envelope_refusal}
use Rattle.fix_tags.specs.Stamp.{StampParts, stamp_text}
use Rattle.fix_tags.proofs.Written.{length-comp_id, length-decimal, length-stamp_text}
use Rattle.fix_tags.specs.Body.{Body}
use Rattle.fix_tags.specs.declared.body.Body.TheVariants.{App}
use Rattle.fix_tags.specs.declared.envelope.Envelope.{Envelope}
use Rattle.fix_tags.proofs.Apps.{app_kind_parts}
use Rattle.fix_tags.proofs.Lookups.{marks}

-- how long a field's text is, by the length of its value
field_length : (tag most : ℕ) (value : List ℕ) → tag < 1000 → length value ≤ most → length (field_text (field tag value)) ≤ most + 5
field_length tag most value small short =
    let digits = length-decimal 3 tag (omega arith) (omega arith) (omega arith) in
    omega (arith, length-field_text (field tag value), digits)

-- one field more
text_of_more : (f : Tagged) (fields : List Tagged) → length (fields_text (f ∷ fields)) ≡ length (field_text f) + length (fields_text fields)
text_of_more f fields = length-append (field_text f) (fields_text fields)

marks_length : (dup resend : Bool) (time : List ℕ) (fields : List Tagged) → length time ≤ 21 → length (fields_text (marks dup resend time fields)) ≤ 64 + length (fields_text fields)
marks_length true true time fields short =
    let t52 = field_length 52 21 time (omega arith) short in
    let t122 = field_length 122 21 time (omega arith) short in
    omega (arith, text_of_more (field 43 (codes "Y")) (field 97 (codes "Y") ∷ field 52 time ∷ field 122 time ∷ fields), text_of_more (field 97 (codes "Y")) (field 52 time ∷ field 122 time ∷ fields), text_of_more (field 52 time) (field 122 time ∷ fields), text_of_more (field 122 time) fields, t52, t122, field_length 43 1 (codes "Y") (omega arith) (omega arith), field_length 97 1 (codes "Y") (omega arith) (omega arith))
marks_length true false time fields short =
    let t52 = field_length 52 21 time (omega arith) short in
    let t122 = field_length 122 21 time (omega arith) short in
    omega (arith, text_of_more (field 43 (codes "Y")) (field 52 time ∷ field 122 time ∷ fields), text_of_more (field 52 time) (field 122 time ∷ fields), text_of_more (field 122 time) fields, t52, t122, field_length 43 1 (codes "Y") (omega arith) (omega arith))
marks_length false true time fields short =
    let t52 = field_length 52 21 time (omega arith) short in
    omega (arith, text_of_more (field 97 (codes "Y")) (field 52 time ∷ fields), text_of_more (field 52 time) fields, t52, field_length 97 1 (codes "Y") (omega arith) (omega arith))
marks_length false false time fields short =
    let t52 = field_length 52 21 time (omega arith) short in
    omega (arith, text_of_more (field 52 time) fields, t52)

small_number : (n : ℕ) → is_message_number n ≡ true → n < 10 ^ 9
small_number n is = grind (arith, nat_tests)

short_kind : (kind : List ℕ) → nat_le (length kind) 8 ≡ true → length kind ≤ 8
short_kind kind is = grind (arith, nat_tests)

-- a header takes at most 150 bytes
pub header_length : (e : Envelope) (time : List ℕ) (fields : List Tagged) → length (kind_of e.body) ≤ 8 → IsCompId e.sender → IsCompId e.target → is_message_number e.number ≡ true → length time ≤ 21
    → length (fields_text (header_fields e time ++ fields)) ≤ 150 + length (fields_text fields)
header_length e time fields kind sender target number short =
    let rest : List Tagged = marks e.poss_dup e.poss_resend time fields in
    let small = small_number e.number number in
    let f35 = field_length 35 8 (kind_of e.body) (omega arith) kind in
    let f49 = field_length 49 16 e.sender (omega arith) (length-comp_id e.sender sender) in
    let f56 = field_length 56 16 e.target (omega arith) (length-comp_id e.target target) in
    let f34 = field_length 34 9 (decimal e.number) (omega arith) (length-decimal 9 e.number (omega arith) small (omega arith)) in
    omega (
      arith,
      text_of_more (field 35 (kind_of e.body)) (field 49 e.sender ∷ field 56 e.target ∷ number_field 34 e.number ∷ rest),
      text_of_more (field 49 e.sender) (field 56 e.target ∷ number_field 34 e.number ∷ rest),
      text_of_more (field 56 e.target) (number_field 34 e.number ∷ rest),
      text_of_more (number_field 34 e.number) rest,
      marks_length e.poss_dup e.poss_resend time fields short,
      f35,
      f49,
      f56,
      f34,
    )

pub no_app_fault : (fields : List Tagged) → are_app_fields fields ≡ true → app_fault fields ≡ None
no_app_fault [] good = refl
no_app_fault (f ∷ fields) good =
    let parts = and_parts (is_app_field f) (are_app_fields fields) good in
    rw (parts.0, no_app_fault fields parts.1) refl

not_long : (n : ℕ) → n ≤ 4096 → nat_lt 4096 n ≡ false
not_long n short = grind (arith, nat_tests)

-- nothing keeps such a message from being written but out of memory
pub app_not_refused : (e : Envelope) (s : StampParts) (kind : List ℕ) (fields : List Tagged) → e.body ≡ App kind fields → is_app_kind kind ≡ true → are_app_fields fields ≡ true
    → length (fields_text fields) ≤ 3000 → IsCompId e.sender → IsCompId e.target → is_message_number e.number ≡ true → envelope_refusal e s ≡ None
app_not_refused e s kind fields body is good short sender target number =
    let time : List ℕ = stamp_text s in
    let kind_is : length (kind_of e.body) ≡ length kind = ap (λ (b : Body). length (kind_of b)) body in
    let kind_short : length (kind_of e.body) ≤ 8 = omega (arith, kind_is, short_kind kind (app_kind_parts kind is).1) in
    let here = header_length e time fields kind_short sender target number (omega (arith, length-stamp_text s)) in
    let same : length (fields_text (envelope_fields e s)) ≡ length (fields_text (header_fields e time ++ fields)) = ap (λ (b : Body). length (fields_text (header_fields e time ++ body_fields b))) body in
    let whole : length (fields_text (envelope_fields e s)) ≤ 4096 = omega (arith, here, short, same) in
    let none : field_fault e ≡ None = ap (λ (b : Body). kind_fault b or_then (unless_ok (is_message_number e.number) 34 or_then body_fault b)) body ∙ rw (is, number, no_app_fault fields good) refl in
    rw (none, not_long (length (fields_text (envelope_fields e s))) whole) refl
