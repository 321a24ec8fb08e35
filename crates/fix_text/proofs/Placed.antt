-- The places of fields in a text, as a loop finds them one after the other.
use Rattle.std.proofs.Common.{◌≡◌, ℕ, ◌+◌, ◌-◌, ◌*◌, ◌<◌, ◌≤◌, Bool, true, false, cond, eqb, ltb, leb, List, [], ◌∷◌, ◌++◌, length, get_or, take, drop, map, Option, Some, None, Result, Ok, Err, inl, inr, refl, sym, ap, subst, ◌∙◌, arith, append_assoc}
use Rattle.std.specs.Prelude.{IsTrue, not, ◌&&◌, ◌||◌, IfSome, OnErr, slice_range, is_some, is_ok, is_err}
use Rattle.std.specs.Char.{is_ascii_digit}
use Rattle.std.proofs.lemmas.Bool.Decides.{nat_tests}
use Rattle.std.proofs.lemmas.Bool.{and_from, or_parts, eq-eqb, ne_eqb}
use Rattle.std.proofs.lemmas.List.{length-append, length-take-le, length-drop, take-append-drop, drop-map, drop_more, length-map, map-append}
use Rattle.std.proofs.lemmas.List.Folds.{list_all-append}
use Rattle.fix_text.specs.declared.place.Place.{Place}
use Rattle.fix_text.specs.Tagged.{Tagged, value_of}
use Rattle.fix_text.specs.Reading.{field_from, field_of, fields_of, with_field}
use Rattle.fix_text.specs.Text.{holds_soh}
use Rattle.fix_text.specs.Placing.{AreMore, AreWithin, field_at, fields_at, is_within}
use Rattle.fix_text.proofs.Readers.{chosen}
use Rattle.fix_text.proofs.FieldLists.{with_front, fields_of-part, reads_one}
use Rattle.fix_text.proofs.Places.{part_found}
use Rattle.fix_text.proofs.Parts.{IsPart}
use Rattle.fix_text.proofs.FieldTexts.{field_of-takes}

some_is : (x y : Tagged) → ◌≡◌ {A = Option Tagged} (Some x) (Some y) → x ≡ y
some_is x y e = cc

-- a field's value is the end of its part
pub value_behind : (tag : ℕ) (part : List ℕ) (field : Tagged) → field_from tag part ≡ Some field → (front : List ℕ) × (part ≡ front ++ field.value)
unfolding field_from
value_behind tag [] field is = absurd cc
value_behind tag (byte ∷ part) field is =
    elim (chosen (eqb byte 61) _ _ (Some field) is) [
      | inl equals ↦ elim (chosen (ltb 0 tag) (Some (record { tag = tag; value = part })) None (Some field) equals.1) [
        | inl hit ↦ (byte ∷ [], ap (λ (f : Tagged). byte ∷ f.value) (some_is (record { tag = tag; value = part }) field hit.1))
        | inr miss ↦ absurd cc
      ]
      | inr digit ↦ elim (chosen (is_ascii_digit byte && ltb 0 (10 * tag + (byte - 48)) && leb (10 * tag + (byte - 48)) 999999) (field_from (10 * tag + (byte - 48)) part) None (Some field) digit.1) [
        | inl hit ↦ let later = value_behind (10 * tag + (byte - 48)) part field hit.1 in (byte ∷ later.0, ap (λ (t : List ℕ). byte ∷ t) later.1)
        | inr miss ↦ absurd cc
      ]
    ]

-- the value at the end of a part lies at its end in the text too
pub value_lies : (text : List ℕ) (at end : ℕ) (field : Tagged) → at ≤ end → end ≤ length text → Some field ≡ field_of (slice_range text at end) → (length field.value ≤ end) × (slice_range text (end - length field.value) end ≡ field.value)
value_lies text at end field ordered within is =
    let part : List ℕ = slice_range text at end in
    let back : List ℕ = drop (end - at) (drop at text) in
    let behind = value_behind 0 part field (sym is) in
    let long : length part ≡ end - at = length-take-le (end - at) (drop at text) (omega (arith, length-drop at text)) in
    let split : length part ≡ length behind.0 + length field.value = ap length behind.1 ∙ length-append behind.0 field.value in
    let same : text ≡ (take at text ++ behind.0) ++ (field.value ++ back) =
    sym (take-append-drop at text)
    ∙ ap (λ (t : List ℕ). take at text ++ t) (sym (take-append-drop (end - at) (drop at text)) ∙ ap (λ (p : List ℕ). p ++ back) behind.1 ∙ append_assoc behind.0 field.value back)
    ∙ sym (append_assoc (take at text) behind.0 (field.value ++ back)) in
    let front = length-append (take at text) behind.0 in
    let taken = length-take-le at text (omega arith) in
    (omega (arith, long, split), part_found text (take at text ++ behind.0) field.value back _ _ same (omega (arith, front, taken, long, split)) (omega (arith, long, split)))

-- so its place is within the text, and has no SOH in it where the part has none
pub is_place : (text : List ℕ) (at end tag : ℕ) (field : Tagged) → at ≤ end → end ≤ length text → holds_soh (slice_range text at end) ≡ false → Some field ≡ field_of (slice_range text at end)
    → IsTrue (is_within text (record { tag = tag; start = end - length field.value; end = end }))
is_place text at end tag field ordered within part is =
    let lies = value_lies text at end field ordered within is in
    let takes = field_of-takes (slice_range text at end) field part (sym is) in
    let clean : not (holds_soh (slice_range text (end - length field.value) end)) ≡ true = ap (λ (value : List ℕ). not (holds_soh value)) lies.1 ∙ ap not takes.1.value in
    let starts : leb (end - length field.value) end ≡ true = grind (arith, nat_tests) in
    let ends : leb end (length text) ≡ true = grind (arith, nat_tests) in
    rw (starts, ends, clean) refl

-- ---- a turn of the loop

pub place_read : {A E : Type 0} (pushed : Result A E) (full : Bool) (text : List ℕ) (places : List Place) (at end : ℕ) (place : Place) (total : Option (List Tagged))
    → IsPart text at end → Some (field_at text place) ≡ field_of (slice_range text at end)
    → (full ≡ false → with_front (fields_at text places) (fields_of (drop at text)) ≡ total)
    → (full || is_err pushed) ≡ false → with_front (fields_at text (cond (is_ok pushed) (places ++ place ∷ []) places)) (fields_of (drop (end + 1) text)) ≡ total
place_read (Err e) full text places at end place total part is so_far room =
    absurd (true_not_false (or_parts full true room).1) where
      true_not_false : true ≡ false → ⊥
      true_not_false e = cc
place_read (Ok x) full text places at end place total part is so_far room =
    ap (λ (front : List Tagged). with_front front (fields_of (drop (end + 1) text))) (map-append (field_at text) places (place ∷ []))
    ∙ reads_one (fields_at text places) (drop at text) (slice_range text at end) (drop (end + 1) text) (field_at text place) total part.parted part.whole (sym is) (so_far (or_parts full false room).0)

some_with : (field : Tagged) (read : Option (List Tagged)) → is_some (with_field (Some field) read) ≡ is_some read
some_with field None = refl
some_with field (Some later) = refl

pub some_read : (text : List ℕ) (at end : ℕ) (field : Tagged) (total : Bool) → IsPart text at end → Some field ≡ field_of (slice_range text at end)
    → is_some (fields_of (drop at text)) ≡ total → is_some (fields_of (drop (end + 1) text)) ≡ total
some_read text at end field total part is so_far =
    let rest : List ℕ = drop (end + 1) text in
    sym (some_with field (fields_of rest))
    ∙ ap (λ (f : Option Tagged). is_some (with_field f (fields_of rest))) is
    ∙ ap is_some (sym (ap fields_of part.parted ∙ fields_of-part (slice_range text at end) rest part.whole))
    ∙ so_far

pub within_more : {A E : Type 0} (pushed : Result A E) (text : List ℕ) (places : List Place) (place : Place) → IsTrue (is_within text place) → AreWithin text places
    → AreWithin text (cond (is_ok pushed) (places ++ place ∷ []) places)
within_more (Err e) text places place here each = each
within_more (Ok x) text places place here each =
    list_all-append (is_within text) places (place ∷ []) ∙ and_from _ _ each (and_from _ _ here refl)

-- what a refusal says
pub on_is_err : {A E : Type 0} (result : Result A E) (P : Type 0) → OnErr result P → is_err result ≡ true → P
on_is_err (Ok x) P h is = absurd cc
on_is_err (Err e) P h is = h

longer : (n : ℕ) (front : List Tagged) (field : Tagged) (read : Option (List Tagged)) → n ≤ length front
    → IfSome (with_front front (with_field (Some field) read)) (λ fields. n < length fields)
longer n front field None h = tt
longer n front field (Some later) h = omega (arith, length-append front (field ∷ later))

-- where a place found no room, the fields are more than there was room for
pub more_than_room : {A E : Type 0} (pushed : Result A E) (full : Bool) (text : List ℕ) (places : List Place) (at end n : ℕ) (place : Place)
    → IsPart text at end → Some (field_at text place) ≡ field_of (slice_range text at end)
    → (is_err pushed ≡ true → n ≤ length places)
    → (full ≡ true → IfSome (fields_of text) (λ fields. n < length fields))
    → (full ≡ false → with_front (fields_at text places) (fields_of (drop at text)) ≡ fields_of text)
    → (full || is_err pushed) ≡ true → IfSome (fields_of text) (λ fields. n < length fields)
more_than_room pushed true text places at end n place part is fail more so_far now = more refl
more_than_room pushed false text places at end n place part is fail more so_far now =
    let rest : List ℕ = drop (end + 1) text in
    let front : List Tagged = fields_at text places in
    let here : fields_of (drop at text) ≡ with_field (Some (field_at text place)) (fields_of rest) =
    ap fields_of part.parted ∙ fields_of-part (slice_range text at end) rest part.whole ∙ ap (λ (f : Option Tagged). with_field f (fields_of rest)) (sym is) in
    let total : with_front front (with_field (Some (field_at text place)) (fields_of rest)) ≡ fields_of text = ap (with_front front) (sym here) ∙ so_far refl in
    subst (λ (read : Option (List Tagged)). IfSome read (λ fields. n < length fields)) total
    (longer n front (field_at text place) (fields_of rest) (omega (arith, fail now, length-map places (field_at text))))

pub more_if_some : (n : ℕ) (fields : Option (List Tagged)) → is_some fields ≡ true → IfSome fields (λ list. n < length list) → AreMore n fields
more_if_some n None some more = absurd cc
more_if_some n (Some fields) some more = more

-- ---- its exits

pub no_fields : (read total : Option (List Tagged)) → read ≡ None → is_some read ≡ is_some total → None ≡ total
no_fields read None none so_far = refl
no_fields read (Some fields) none so_far = absurd (false_not_true (ap is_some (sym none) ∙ so_far)) where
  false_not_true : false ≡ true → ⊥
  false_not_true e = cc

-- ---- a look-up

-- the field at a place, before those of the later places
pub field_here : (text : List ℕ) (places : List Place) (k : ℕ) (d : Place) → k < length places → drop k (fields_at text places) ≡ field_at text (get_or places k d) ∷ drop (k + 1) (fields_at text places)
field_here text places k d within =
    drop-map (field_at text) k places ∙ ap (map (field_at text)) (drop_more places k d within)
    ∙ ap (λ (later : List Tagged). field_at text (get_or places k d) ∷ later) (sym (drop-map (field_at text) (k + 1) places))

value_found : (field : Tagged) (later : List Tagged) (tag : ℕ) → field.tag ≡ tag → value_of (field ∷ later) tag ≡ Some field.value
value_found field later tag hit =
    let same : eqb field.tag tag ≡ true = eq-eqb _ _ hit in
    rw same refl

value_not_found : (field : Tagged) (later : List Tagged) (tag : ℕ) → (field.tag ≡ tag → ⊥) → value_of (field ∷ later) tag ≡ value_of later tag
value_not_found field later tag miss =
    let other : eqb field.tag tag ≡ false = ne_eqb _ _ miss in
    rw other refl

pub value_here : (text : List ℕ) (places : List Place) (k : ℕ) (d : Place) (tag : ℕ) (total : Option (List ℕ)) → k < length places → (get_or places k d).tag ≡ tag → value_of (drop k (fields_at text places)) tag ≡ total
    → Some (slice_range text (get_or places k d).start (get_or places k d).end) ≡ total
value_here text places k d tag total within hit so_far =
    sym (value_found (field_at text (get_or places k d)) (drop (k + 1) (fields_at text places)) tag hit)
    ∙ ap (λ (fields : List Tagged). value_of fields tag) (sym (field_here text places k d within)) ∙ so_far

pub value_later : (text : List ℕ) (places : List Place) (k : ℕ) (d : Place) (tag : ℕ) (total : Option (List ℕ)) → k < length places → ((get_or places k d).tag ≡ tag → ⊥) → value_of (drop k (fields_at text places)) tag ≡ total
    → value_of (drop (k + 1) (fields_at text places)) tag ≡ total
value_later text places k d tag total within miss so_far =
    sym (value_not_found (field_at text (get_or places k d)) (drop (k + 1) (fields_at text places)) tag miss)
    ∙ ap (λ (fields : List Tagged). value_of fields tag) (sym (field_here text places k d within)) ∙ so_far
