-- No value of a frame holds SOH.
use Rattle.std.proofs.Common.{◌≡◌, ℕ, eqb, Bool, true, false, cond, List, [], ◌∷◌, Option, Some, refl, subst}
use Rattle.std.specs.Prelude.{IsTrue, not, filter, slice_range}
use Rattle.std.proofs.lemmas.Bool.{and_parts, and_from, not-true}
use Rattle.fix_text.specs.declared.place.Place.{Place}
use Rattle.fix_text.specs.Tagged.{Tagged, value_of}
use Rattle.fix_text.specs.Text.{holds_soh, have_no_soh}
use Rattle.fix_text.specs.Placing.{AreWithin, is_within, fields_at}

-- the fields of a frame, by what it says of its places
pub places_hold_no_soh : (text : List ℕ) (places : List Place) → AreWithin text places → IsTrue (have_no_soh (fields_at text places))
places_hold_no_soh text [] within = refl
places_hold_no_soh text (place ∷ places) within =
    let each = and_parts (is_within text place) _ within in
    let clean = (and_parts _ (not (holds_soh (slice_range text place.start place.end))) each.0).1 in
    and_from _ _ clean (places_hold_no_soh text places each.1)

same_value : (x y : List ℕ) → ◌≡◌ {A = Option (List ℕ)} (Some x) (Some y) → x ≡ y
same_value x y e = cc

value_first : (b : Bool) (field : Tagged) (fields : List Tagged) (tag : ℕ) (value : List ℕ) → holds_soh field.value ≡ false
    → (value_of fields tag ≡ Some value → holds_soh value ≡ false) → cond b (Some field.value) (value_of fields tag) ≡ Some value
    → holds_soh value ≡ false
value_first true field fields tag value here later is = subst (λ (v : List ℕ). holds_soh v ≡ false) (same_value field.value value is) here
value_first false field fields tag value here later is = later is

-- the value of a tag
pub value_holds_no_soh : (fields : List Tagged) (tag : ℕ) (value : List ℕ) → IsTrue (have_no_soh fields) → value_of fields tag ≡ Some value → holds_soh value ≡ false
value_holds_no_soh [] tag value none is = absurd cc
value_holds_no_soh (field ∷ fields) tag value none is =
    let parts = and_parts (not (holds_soh field.value)) _ none in
    value_first (eqb field.tag tag) field fields tag value (not-true (holds_soh field.value) parts.0)
    (value_holds_no_soh fields tag value parts.1) is

kept_first : (b : Bool) (field : Tagged) (fields : List Tagged) → IsTrue (not (holds_soh field.value)) → IsTrue (have_no_soh fields)
    → IsTrue (have_no_soh (cond b (field ∷ fields) fields))
kept_first true field fields here later = and_from _ _ here later
kept_first false field fields here later = later

-- some of the fields
pub kept_hold_no_soh : (test : Tagged → Bool) (fields : List Tagged) → IsTrue (have_no_soh fields) → IsTrue (have_no_soh (filter test fields))
kept_hold_no_soh test [] none = refl
kept_hold_no_soh test (field ∷ fields) none =
    let parts = and_parts (not (holds_soh field.value)) _ none in
    kept_first (test field) field (filter test fields) parts.0 (kept_hold_no_soh test fields parts.1)
