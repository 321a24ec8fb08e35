-- The fields of a message, one at a time.
use Rattle.std.proofs.Common.{◌≡◌, ℕ, suc, ◌+◌, ◌<◌, ◌≤◌, Bool, true, false, cond, List, [], ◌∷◌, ◌++◌, length, take, drop, get_or, Some, refl, sym, ap, ap₂, ◌∙◌, append_assoc, arith}
use Rattle.std.specs.Prelude.{slice_get}
use Rattle.std.proofs.Math.ListN.{drop_of_length-le}
use Rattle.std.proofs.lemmas.List.{drop-append-le, drop_more, length-take-le, take_more}
use Rattle.std.proofs.lemmas.Option.{get_or_from_slice_get}
use Rattle.fix_text.specs.Tagged.{Tagged}
use Rattle.fix_tags.specs.App.{is_header_tag}
use Rattle.dressed_link.specs.Dressing.{header_size}

-- what is left from a field on
from_field : (fields : List Tagged) (i : ℕ) (f : Tagged) → i < length fields → slice_get fields i ≡ Some f
    → drop i fields ≡ f ∷ drop (i + 1) fields
from_field fields i f below is =
    drop_more fields i f below
    ∙ ap (λ (x : Tagged). x ∷ drop (i + 1) fields) (get_or_from_slice_get fields i f f is)

-- the first fields, with one more
pub up_to_field : (fields : List Tagged) (i : ℕ) (f : Tagged) → i < length fields → slice_get fields i ≡ Some f
    → take (i + 1) fields ≡ take i fields ++ f ∷ []
up_to_field fields i f below is =
    take_more fields i f below
    ∙ ap (λ (x : Tagged). take i fields ++ x ∷ []) (get_or_from_slice_get fields i f f is)

size_of : (f : Tagged) (rest : List Tagged) (b : Bool) → is_header_tag f.tag ≡ b
    → header_size (f ∷ rest) ≡ cond b (suc (header_size rest)) 0
size_of f rest b is = ap (λ h. cond h (suc (header_size rest)) 0) is

pub header_goes_on : (fields : List Tagged) (i : ℕ) (f : Tagged) → i < length fields → slice_get fields i ≡ Some f
    → is_header_tag f.tag ≡ true → header_size fields ≡ i + header_size (drop i fields)
    → header_size fields ≡ (i + 1) + header_size (drop (i + 1) fields)
header_goes_on fields i f below is header so_far =
    let here : header_size (drop i fields) ≡ suc (header_size (drop (i + 1) fields)) =
    ap header_size (from_field fields i f below is) ∙ size_of f (drop (i + 1) fields) true header in
    omega (arith, so_far, here)

pub header_ends : (fields : List Tagged) (i : ℕ) (f : Tagged) → i < length fields → slice_get fields i ≡ Some f
    → is_header_tag f.tag ≡ false → header_size fields ≡ i + header_size (drop i fields) → i ≡ header_size fields
header_ends fields i f below is header so_far =
    let here : header_size (drop i fields) ≡ 0 =
    ap header_size (from_field fields i f below is) ∙ size_of f (drop (i + 1) fields) false header in
    omega (arith, so_far, here)

pub header_is_all : (fields : List Tagged) (i : ℕ) → length fields ≤ i → i ≤ length fields
    → header_size fields ≡ i + header_size (drop i fields) → length fields ≡ header_size fields
header_is_all fields i past within so_far =
    let here : header_size (drop i fields) ≡ 0 = ap header_size (drop_of_length-le fields past) in
    omega (arith, so_far, here, past, within)

-- the fields from a place on, with one more
own_more : (fields : List Tagged) (from i : ℕ) (f : Tagged) → from ≤ i → i < length fields
    → slice_get fields i ≡ Some f → drop from (take (i + 1) fields) ≡ drop from (take i fields) ++ f ∷ []
own_more fields from i f past below is =
    let whole : length (take i fields) ≡ i = length-take-le i fields (omega (arith, below)) in
    ap (drop from) (up_to_field fields i f below is)
    ∙ drop-append-le from (take i fields) (f ∷ []) (omega (arith, past, whole))

pub own_pushed : (fields before pushed now : List Tagged) (from i : ℕ) (f : Tagged) → from ≤ i → i < length fields
    → slice_get fields i ≡ Some f → pushed ≡ before ++ drop from (take i fields) → now ≡ pushed ++ f ∷ []
    → now ≡ before ++ drop from (take (i + 1) fields)
own_pushed fields before pushed now from i f past below is so_far push =
    push ∙ ap (λ l. l ++ f ∷ []) so_far ∙ append_assoc before (drop from (take i fields)) (f ∷ [])
    ∙ ap (λ l. before ++ l) (sym (own_more fields from i f past below is))

-- a field of this tag and this value
pub field_is : (f : Tagged) (tag : ℕ) (value : List ℕ) → tag ≡ f.tag → value ≡ f.value
    → record { tag = tag; value = value } ≡ f
field_is f tag value t v = ap₂ (λ (t : ℕ) (v : List ℕ). record { tag = t; value = v }) t v
