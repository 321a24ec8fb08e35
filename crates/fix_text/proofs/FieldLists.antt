-- Fields one after the other, as a loop reads them.
use Rattle.std.proofs.Common.{◌≡◌, ℕ, ◌<◌, ◌≤◌, true, false, eqb, List, [], ◌∷◌, ◌++◌, length, Option, Some, None, refl, sym, ap, ◌∙◌, arith, append_assoc}
use Rattle.std.specs.Prelude.{is_some}
use Rattle.std.specs.Option.{option_map, option_and_then}
use Rattle.std.proofs.lemmas.List.{append-nil}
use Rattle.std.proofs.lemmas.Bool.{or_parts}
use Rattle.fix_text.specs.Tagged.{Tagged}
use Rattle.fix_text.specs.Reading.{field_of, fields_of, fields_of_parts, parts_of, with_byte, with_field}
use Rattle.fix_text.specs.Text.{holds_soh}

-- what was read before, and what is still read
abbrev pub with_front : List Tagged → Option (List Tagged) → Option (List Tagged)
with_front front read = option_map (λ later. front ++ later) read

byte_before : (byte : ℕ) (part : List ℕ) (read : Option (List (List ℕ))) → option_and_then (with_byte byte) (option_map (λ parts. part ∷ parts) read) ≡ option_map (λ parts. (byte ∷ part) ∷ parts) read
byte_before byte part None = refl
byte_before byte part (Some parts) = refl

-- a part and its SOH before a text
pub parts_of-part : (part rest : List ℕ) → holds_soh part ≡ false → parts_of (part ++ 1 ∷ rest) ≡ option_map (λ parts. part ∷ parts) (parts_of rest)
unfolding parts_of
parts_of-part [] rest h = refl
parts_of-part (byte ∷ part) rest h =
    let split = or_parts (eqb byte 1) (holds_soh part) h in
    rw (split.0, parts_of-part part rest split.1) (byte_before byte part (parts_of rest))

-- bytes with no SOH are no parts
parts_of-none : (byte : ℕ) (bytes : List ℕ) → holds_soh (byte ∷ bytes) ≡ false → parts_of (byte ∷ bytes) ≡ None
unfolding parts_of
parts_of-none byte [] h =
    let split = or_parts (eqb byte 1) false h in
    rw (split.0) refl
parts_of-none byte (next ∷ bytes) h =
    let split = or_parts (eqb byte 1) (holds_soh (next ∷ bytes)) h in
    rw (split.0, parts_of-none next bytes split.1) refl

with_field-none : (field : Option Tagged) → with_field field None ≡ None
with_field-none None = refl
with_field-none (Some field) = refl

part_before : (part : List ℕ) (read : Option (List (List ℕ))) → option_and_then fields_of_parts (option_map (λ parts. part ∷ parts) read) ≡ with_field (field_of part) (option_and_then fields_of_parts read)
unfolding fields_of_parts
part_before part None = sym (with_field-none (field_of part))
part_before part (Some parts) = refl

-- a part and its SOH before the text of other fields
pub fields_of-part : (part rest : List ℕ) → holds_soh part ≡ false → fields_of (part ++ 1 ∷ rest) ≡ with_field (field_of part) (fields_of rest)
unfolding fields_of
fields_of-part part rest h = rw (parts_of-part part rest h) (part_before part (parts_of rest))

-- bytes with no SOH are no fields
pub fields_of-none : (text : List ℕ) → 0 < length text → holds_soh text ≡ false → fields_of text ≡ None
unfolding fields_of
fields_of-none [] more h = absurd (omega arith)
fields_of-none (byte ∷ bytes) more h = rw (parts_of-none byte bytes h) refl

front_of_one : (front : List Tagged) (field : Tagged) (read : Option (List Tagged)) → with_front front (with_field (Some field) read) ≡ with_front (front ++ field ∷ []) read
front_of_one front field None = refl
front_of_one front field (Some later) = ap (λ (fields : List Tagged). Some fields) (sym (append_assoc front (field ∷ []) later))

-- ---- a text that is no fields

pub not_fields : (text part rest : List ℕ) → text ≡ part ++ 1 ∷ rest → holds_soh part ≡ false → None ≡ field_of part → fields_of text ≡ None
not_fields text part rest parted none is = ap fields_of parted ∙ fields_of-part part rest none ∙ ap (λ (f : Option Tagged). with_field f (fields_of rest)) (sym is)

-- ---- a loop that reads them

pub reads_one : (front : List Tagged) (text part rest : List ℕ) (field : Tagged) (total : Option (List Tagged)) → text ≡ part ++ 1 ∷ rest → holds_soh part ≡ false → field_of part ≡ Some field → with_front front (fields_of text) ≡ total → with_front (front ++ field ∷ []) (fields_of rest) ≡ total
reads_one front text part rest field total parted none is so_far =
    let one : fields_of text ≡ with_field (Some field) (fields_of rest) = ap fields_of parted ∙ fields_of-part part rest none ∙ ap (λ (f : Option Tagged). with_field f (fields_of rest)) is in
    sym (front_of_one front field (fields_of rest)) ∙ ap (with_front front) (sym one) ∙ so_far

-- its end: where no byte is left
pub all_read : (front : List Tagged) (text : List ℕ) (total : Option (List Tagged)) → length text ≤ 0 → with_front front (fields_of text) ≡ total → Some front ≡ total
unfolding fields_of parts_of fields_of_parts
all_read front [] total nothing so_far = ap (λ (fields : List Tagged). Some fields) (sym (append-nil front)) ∙ so_far
all_read front (byte ∷ bytes) total nothing so_far = absurd (omega arith)

-- nothing is read as no fields
pub nothing_read : (text : List ℕ) → length text ≤ 0 → is_some (fields_of text) ≡ true
unfolding fields_of parts_of fields_of_parts
nothing_read [] nothing = refl
nothing_read (byte ∷ bytes) nothing = absurd (omega arith)
