-- What is read as fields is the text of those fields, and of no others.
use Rattle.std.proofs.Common.{◌≡◌, ℕ, ◌+◌, ◌-◌, ◌*◌, ◌/◌, ◌%◌, ◌<◌, ◌≤◌, true, false, eqb, ltb, leb, List, [], ◌∷◌, ◌++◌, get_or, Option, Some, None, refl, sym, ap, subst, ◌∙◌, arith, inl, inr}
use Rattle.std.specs.Prelude.{IsTrue, ◌&&◌, decimal}
use Rattle.std.specs.Char.{is_ascii_digit}
use Rattle.std.specs.Str.{all_ascii_digits}
use Rattle.std.specs.List.{flat_map}
use Rattle.std.specs.Option.{option_map, option_and_then}
use Rattle.std.proofs.lemmas.Bool.{eqb-true, ltb-true, leb-true, and_parts, and_from, or_parts, or_from}
use Rattle.std.proofs.lemmas.Fmt.{decimal-digits_value}
use Rattle.fix_text.specs.Tagged.{Tagged}
use Rattle.fix_text.specs.Text.{field_text, fields_text, holds_soh}
use Rattle.fix_text.specs.Frame.{three_digits}
use Rattle.fix_text.specs.Grammar.{number_after, digits_number, IsCheck, IsField, AreFields}
use Rattle.fix_text.specs.Reading.{field_from, field_of, with_byte, with_field, parts_of, fields_of_parts, fields_of}
use Rattle.fix_text.proofs.Readers.{chosen, digit_range}
use Rattle.fix_text.proofs.Rewritten.{own}

abbrev pub given : {A : Type 0} → A → Option A
given x = Some x

pub some_is : {A : Type 0} (x y : A) → given x ≡ given y → x ≡ y
some_is x y e = cc

pub none_given : {A : Type 0} (x : A) → None ≡ given x → ⊥
none_given x e = cc

map_some : {A B : Type 0} (f : A → B) (o : Option A) (y : B) → option_map f o ≡ Some y → (x : A) × (o ≡ Some x) × (f x ≡ y)
map_some f None y e = absurd (none_given y e)
map_some f (Some x) y e = (x, refl, some_is (f x) y e)

then_some : {A B : Type 0} (f : A → Option B) (o : Option A) (y : B) → option_and_then f o ≡ Some y → (x : A) × (o ≡ Some x) × (f x ≡ Some y)
then_some f None y e = absurd (none_given y e)
then_some f (Some x) y e = (x, refl, e)

field_some : (field : Option Tagged) (read : Option (List Tagged)) (y : List Tagged) → with_field field read ≡ Some y → (x : Tagged) × (field ≡ Some x) × (later : List Tagged) × (read ≡ Some later) × (x ∷ later ≡ y)
field_some None read y e = absurd (none_given y e)
field_some (Some x) None y e = absurd (none_given y e)
field_some (Some x) (Some later) y e = (x, refl, later, refl, some_is (x ∷ later) y e)

-- ---- parts

-- a part with the SOH that ends it
abbrev pub ended : List ℕ → List ℕ
ended part = part ++ 1 ∷ []

-- no part holds SOH
abbrev pub NoSoh : List (List ℕ) → Type 0
NoSoh [] = Unit {0}
NoSoh (part ∷ parts) = (holds_soh part ≡ false) × NoSoh parts

first_part_takes : (byte : ℕ) (bytes : List ℕ) (read parts : List (List ℕ)) → eqb byte 1 ≡ false → bytes ≡ flat_map ended read → NoSoh read → with_byte byte read ≡ Some parts → (byte ∷ bytes ≡ flat_map ended parts) × NoSoh parts
first_part_takes byte bytes [] parts other is none e = absurd (none_given parts e)
first_part_takes byte bytes (part ∷ read) parts other is none e =
    subst (λ (ps : List (List ℕ)). (byte ∷ bytes ≡ flat_map ended ps) × NoSoh ps) (some_is ((byte ∷ part) ∷ read) parts e) (ap (λ (t : List ℕ). byte ∷ t) is, (or_from (eqb byte 1) (holds_soh part) other none.0, none.1))

parts_take : (text : List ℕ) (parts : List (List ℕ)) → parts_of text ≡ Some parts → (text ≡ flat_map ended parts) × NoSoh parts
unfolding parts_of
parts_take [] parts e = subst (λ (ps : List (List ℕ)). ([] ≡ flat_map ended ps) × NoSoh ps) (some_is [] parts e) (refl, tt)
parts_take (byte ∷ bytes) parts e =
    elim (chosen (eqb byte 1) _ _ (Some parts) e) [
      | inl soh ↦
          let m = map_some (λ (ps : List (List ℕ)). [] ∷ ps) (parts_of bytes) parts soh.1 in
          let later = parts_take bytes m.0 m.1 in
          let one : byte ≡ 1 = eqb-true byte 1 soh.0 in
          subst (λ (ps : List (List ℕ)). (byte ∷ bytes ≡ flat_map ended ps) × NoSoh ps) m.2 (ap (λ (b : ℕ). b ∷ bytes) one ∙ ap (λ (t : List ℕ). 1 ∷ t) later.0, (refl, later.1))
      | inr other ↦
          let m = then_some (with_byte byte) (parts_of bytes) parts other.1 in
          let later = parts_take bytes m.0 m.1 in
          first_part_takes byte bytes m.0 parts other.0 later.0 later.1 m.2
    ]

-- ---- one field

-- what was read of a field, behind digits of a number
record TakesField (tag : ℕ) (part : List ℕ) (field : Tagged) : Type 0 where
  digits : List ℕ
  parts : part ≡ digits ++ 61 ∷ field.value
  each : IsTrue (all_ascii_digits digits)
  number : number_after tag digits ≡ field.tag
  positive : 0 < field.tag
  bound : field.tag ≤ 999999
  first : tag ≡ 0 → 48 < get_or digits 0 0

field_takes : (tag : ℕ) (part : List ℕ) (field : Tagged) → tag ≤ 999999 → field_from tag part ≡ Some field → TakesField tag part field
unfolding field_from
field_takes tag [] field fits e = absurd (none_given field e)
field_takes tag (byte ∷ bytes) field fits e =
    elim (chosen (eqb byte 61) _ _ (Some field) e) [
      | inl equals ↦ elim (chosen (ltb 0 tag) (Some (record { tag = tag; value = bytes })) None (Some field) equals.1) [
        | inl hit ↦
            let made : Tagged = record { tag = tag; value = bytes } in
            let is : byte ≡ 61 = eqb-true byte 61 equals.0 in
            let positive : 0 < tag = ltb-true _ _ hit.0 in
            subst (TakesField tag (byte ∷ bytes)) (some_is made field hit.1) (record { digits = []; parts = rw is refl; each = refl; number = refl; positive = positive; bound = fits; first = λ zero_is. absurd (omega arith) })
        | inr miss ↦ absurd (none_given field miss.1)
      ]
      | inr other ↦ elim (chosen (is_ascii_digit byte && ltb 0 (10 * tag + (byte - 48)) && leb (10 * tag + (byte - 48)) 999999) (field_from (10 * tag + (byte - 48)) bytes) None (Some field) other.1) [
        | inl hit ↦
            let tests = and_parts (is_ascii_digit byte && ltb 0 (10 * tag + (byte - 48))) (leb (10 * tag + (byte - 48)) 999999) hit.0 in
            let firsts = and_parts (is_ascii_digit byte) (ltb 0 (10 * tag + (byte - 48))) tests.0 in
            let positive : 0 < 10 * tag + (byte - 48) = ltb-true _ _ firsts.1 in
            let small : 10 * tag + (byte - 48) ≤ 999999 = leb-true _ _ tests.1 in
            let later = field_takes (10 * tag + (byte - 48)) bytes field small hit.1 in
            record {
              digits = byte ∷ later.digits;
              parts = ap (λ (t : List ℕ). byte ∷ t) later.parts;
              each = and_from (is_ascii_digit byte) (all_ascii_digits later.digits) firsts.0 later.each;
              number = later.number;
              positive = later.positive;
              bound = later.bound;
              first = λ zero_is. omega arith;
            }
        | inr miss ↦ absurd (none_given field miss.1)
      ]
    ]

-- digits of which the first isn't 0 are the written number
digits_are : (digits : List ℕ) → IsTrue (all_ascii_digits digits) → 48 < get_or digits 0 0 → digits_number digits ≤ 999999 → decimal (digits_number digits) ≡ digits
digits_are [] each first bound = absurd (omega (arith, first))
digits_are (d ∷ digits) each first bound = decimal-digits_value own (d ∷ digits) each (omega arith) (λ zero_is. absurd (omega (arith, zero_is, first))) (omega (arith, bound))

no_soh_behind : (front back : List ℕ) → holds_soh (front ++ back) ≡ false → holds_soh back ≡ false
no_soh_behind [] back h = h
no_soh_behind (x ∷ front) back h = no_soh_behind front back (or_parts (eqb x 1) (holds_soh (front ++ back)) h).1

pub field_of-takes : (part : List ℕ) (field : Tagged) → holds_soh part ≡ false → field_of part ≡ Some field → (part ≡ decimal field.tag ++ 61 ∷ field.value) × IsField field
field_of-takes part field none e =
    let t = field_takes 0 part field (omega arith) e in
    let written : t.digits ≡ decimal field.tag = sym (digits_are t.digits t.each (t.first refl) (omega (arith, t.number, t.bound))) ∙ ap decimal t.number in (
      t.parts ∙ ap (λ (digits : List ℕ). digits ++ 61 ∷ field.value) written,
      record {
        positive = t.positive;
        bound = t.bound;
        value = (or_parts (eqb 61 1) (holds_soh field.value) (no_soh_behind t.digits (61 ∷ field.value) (sym (ap holds_soh t.parts) ∙ none))).1;
      },
    )

-- ---- fields

parts_are : (parts : List (List ℕ)) (fields : List Tagged) → NoSoh parts → fields_of_parts parts ≡ Some fields → (flat_map ended parts ≡ fields_text fields) × AreFields fields
unfolding fields_of_parts
parts_are [] fields none e = subst (λ (fs : List Tagged). ([] ≡ fields_text fs) × AreFields fs) (some_is [] fields e) (refl, tt)
parts_are (part ∷ parts) fields none e =
    let s = field_some (field_of part) (fields_of_parts parts) fields e in
    let first = field_of-takes part s.0 none.0 s.1 in
    let later = parts_are parts s.2 none.1 s.3 in
    subst (λ (fs : List Tagged). (flat_map ended (part ∷ parts) ≡ fields_text fs) × AreFields fs) s.4
    (ap (λ (t : List ℕ). (t ++ 1 ∷ []) ++ flat_map ended parts) first.0 ∙ ap (λ (t : List ℕ). field_text s.0 ++ t) later.0, (first.1, later.1))

-- what is read as fields is their text, and each is one that can be read
pub fields_take : (text : List ℕ) (fields : List Tagged) → fields_of text ≡ Some fields → (text ≡ fields_text fields) × AreFields fields
unfolding fields_of
fields_take text fields e =
    let parts = then_some fields_of_parts (parts_of text) fields e in
    let are = parts_take text parts.0 parts.1 in
    let is = parts_are parts.0 fields are.1 parts.2 in
    (are.0 ∙ is.0, is.1)

-- ---- the digits of a CheckSum

pub check_written : (digits : List ℕ) (n : ℕ) → IsCheck digits n → digits ≡ three_digits n
check_written [] n h = absurd (omega (arith, h.three))
check_written (a ∷ []) n h = absurd (omega (arith, h.three))
check_written (a ∷ b ∷ []) n h = absurd (omega (arith, h.three))
check_written (a ∷ b ∷ c ∷ []) n h =
    let first = and_parts (is_ascii_digit a) (all_ascii_digits (b ∷ c ∷ [])) h.each in
    let second = and_parts (is_ascii_digit b) (all_ascii_digits (c ∷ [])) first.1 in
    let third = and_parts (is_ascii_digit c) true second.1 in
    let ra = digit_range a first.0 in
    let rb = digit_range b second.0 in
    let rc = digit_range c third.0 in
    let a-is : a ≡ 48 + n / 100 = omega (arith, h.value, ra.0, ra.1, rb.0, rb.1, rc.0, rc.1) in
    let b-is : b ≡ 48 + n / 10 % 10 = omega (arith, h.value, ra.0, ra.1, rb.0, rb.1, rc.0, rc.1) in
    let c-is : c ≡ 48 + n % 10 = omega (arith, h.value, ra.0, ra.1, rb.0, rb.1, rc.0, rc.1) in
    cc
check_written (a ∷ b ∷ c ∷ d ∷ digits) n h = absurd (omega (arith, h.three))
