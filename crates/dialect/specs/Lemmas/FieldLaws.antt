-- Fields with short values fit a message.
use Rattle.std.proofs.Common.{◌≡◌, ℕ, ◌+◌, ◌*◌, ◌≤◌, true, ◌&&◌, not, List, [], ◌∷◌, ◌++◌, length, decimal, refl, arith, length-append}
use Rattle.std.specs.List.{AllByRecursion}
use Rattle.std.proofs.lemmas.Bool.{and_parts, and_from}
use Rattle.std.proofs.lemmas.Bool.Decides.{nat_tests}
use Rattle.std.proofs.lemmas.Fmt.{length-decimal-le}
use Rattle.fix_text.specs.Tagged.{Tagged}
use Rattle.fix_text.specs.Text.{field_text, fields_text, is_writable_tag, is_writable_value}
use Rattle.fix_text.proofs.Lengths.{length-field_text}
use Rattle.fix_tags.specs.App.{is_header_tag, is_app_field, are_app_fields}
use Rattle.dialect.specs.Fields.{field}
use Rattle.dialect.specs.ShortFields.{IsShortValue, IsShortField, IsExtraField}
use Rattle.dialect.specs.Dialect.{FitsMessage}

pub short_field : (tag : ℕ) (value : List ℕ) → (is_writable_tag tag && not (is_header_tag tag)) ≡ true
    → IsShortValue value → IsShortField (field tag value)
short_field tag value own short = record { tag = own; value = short }

-- a field that an application message takes, its tag of at most these digits and its value of at most these bytes
pub record IsFieldWithin (most_digits most_bytes : ℕ) (f : Tagged) : Type 0 where
  pub tag : (is_writable_tag f.tag && not (is_header_tag f.tag)) ≡ true
  pub digits : length (decimal f.tag) ≤ most_digits
  pub writable : is_writable_value f.value ≡ true
  pub short : length f.value ≤ most_bytes

are_app_fields-within : (most_digits most_bytes : ℕ) (fields : List Tagged)
    → AllByRecursion (IsFieldWithin most_digits most_bytes) fields → are_app_fields fields ≡ true
are_app_fields-within most_digits most_bytes [] are = refl
are_app_fields-within most_digits most_bytes (first ∷ fields) are =
    and_from _ _ (and_from _ _ are.0.tag are.0.writable) (are_app_fields-within most_digits most_bytes fields are.1)

length-fields_text-within : (most_digits most_bytes : ℕ) (fields : List Tagged)
    → AllByRecursion (IsFieldWithin most_digits most_bytes) fields
    → length (fields_text fields) ≤ length fields * (most_digits + 1 + most_bytes + 1)
length-fields_text-within most_digits most_bytes [] are = omega arith
length-fields_text-within most_digits most_bytes (first ∷ fields) are =
    let here = length-field_text first in
    let whole = length-append (field_text first) (fields_text fields) in
    omega (arith, here, whole, are.0.digits, are.0.short, length-fields_text-within most_digits most_bytes fields are.1)

-- fields that are together within the limit
pub FitsMessage-within : (most_digits most_bytes : ℕ) (fields : List Tagged)
    → AllByRecursion (IsFieldWithin most_digits most_bytes) fields
    → length fields * (most_digits + 1 + most_bytes + 1) ≤ 1000 → FitsMessage fields
FitsMessage-within most_digits most_bytes fields are few = record {
  app = are_app_fields-within most_digits most_bytes fields are;
  short = omega (arith, length-fields_text-within most_digits most_bytes fields are);
}

length-tag : (tag : ℕ) → is_writable_tag tag ≡ true → length (decimal tag) ≤ 6
length-tag tag writable = length-decimal-le 6 tag (omega arith) (grind (arith, nat_tests)) (grind (arith, nat_tests))

within_six_digits : (fields : List Tagged) → AllByRecursion IsShortField fields
    → AllByRecursion (IsFieldWithin 6 32) fields
within_six_digits [] short = tt
within_six_digits (first ∷ fields) short =
    let here : IsFieldWithin 6 32 first = record {
      tag = short.0.tag;
      digits = length-tag first.tag (and_parts _ _ short.0.tag).0;
      writable = short.0.value.writable;
      short = short.0.value.short;
    } in
    (here, within_six_digits fields short.1)

-- up to 25 fields with any tag and a value of at most 32 bytes
pub FitsMessage-short : (fields : List Tagged) → AllByRecursion IsShortField fields → length fields ≤ 25
    → FitsMessage fields
FitsMessage-short fields short few =
    FitsMessage-within 6 32 fields (within_six_digits fields short) (omega arith)

-- and of fields that every order carries besides
extra_within : (fields : List Tagged) → AllByRecursion IsExtraField fields → AllByRecursion (IsFieldWithin 6 24) fields
extra_within [] short = tt
extra_within (first ∷ fields) short =
    let here : IsFieldWithin 6 24 first = record {
      tag = short.0.tag;
      digits = length-tag first.tag (and_parts _ _ short.0.tag).0;
      writable = short.0.writable;
      short = short.0.short;
    } in
    (here, extra_within fields short.1)

are_app_fields-append : (front back : List Tagged) → are_app_fields front ≡ true → are_app_fields back ≡ true
    → are_app_fields (front ++ back) ≡ true
are_app_fields-append [] back p q = q
are_app_fields-append (first ∷ front) back p q =
    let parts = and_parts (is_app_field first) (are_app_fields front) p in
    and_from _ _ parts.0 (are_app_fields-append front back parts.1 q)

length-fields_text-append : (front back : List Tagged)
    → length (fields_text (front ++ back)) ≡ length (fields_text front) + length (fields_text back)
length-fields_text-append [] back = omega arith
length-fields_text-append (first ∷ front) back =
    let more = length-fields_text-append front back in
    let whole = length-append (field_text first) (fields_text (front ++ back)) in
    let part = length-append (field_text first) (fields_text front) in
    omega (arith, more, whole, part)

-- up to 10 fields of at most 32 bytes, and up to 16 of at most 24: 10 * 40 + 16 * 32 is 912
pub FitsMessage-beside : (fields extra : List Tagged) → AllByRecursion IsShortField fields → length fields ≤ 10
    → AllByRecursion IsExtraField extra → length extra ≤ 16 → FitsMessage (fields ++ extra)
FitsMessage-beside fields extra short few besides at_most =
    let front = within_six_digits fields short in
    let back = extra_within extra besides in
    record {
      app = are_app_fields-append fields extra (are_app_fields-within 6 32 fields front)
          (are_app_fields-within 6 24 extra back);
      short = omega (
        arith,
        length-fields_text-append fields extra,
        length-fields_text-within 6 32 fields front,
        length-fields_text-within 6 24 extra back,
        few,
        at_most,
      );
    }
