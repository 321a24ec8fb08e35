-- The text of fields, one more at a time.
use Rattle.std.proofs.Common.{◌≡◌, ℕ, ◌+◌, ◌<◌, ◌≤◌, List, [], ◌∷◌, ◌++◌, length, take, get_or, Some, refl, sym, ap, ◌∙◌}
use Rattle.std.specs.Prelude.{slice_get}
use Rattle.std.specs.List.{flat_map}
use Rattle.std.proofs.lemmas.Grind.{flat_map-append}
use Rattle.std.proofs.lemmas.List.{append-nil, take_all, take_more}
use Rattle.std.proofs.lemmas.Option.{get_or_from_slice_get}
use Rattle.fix_text.specs.Tagged.{Tagged}
use Rattle.fix_text.specs.Text.{field_text, fields_text}

pub fields_more : (fields : List Tagged) (i : ℕ) (field : Tagged) → i < length fields → slice_get fields i ≡ Some field
    → fields_text (take (i + 1) fields) ≡ fields_text (take i fields) ++ field_text field
fields_more fields i field below is =
    let more : take (i + 1) fields ≡ take i fields ++ field ∷ [] =
    take_more fields i field below
    ∙ ap (λ (x : Tagged). take i fields ++ x ∷ []) (get_or_from_slice_get fields i field field is) in
    ap fields_text more
    ∙ (flat_map-append field_text (take i fields) (field ∷ [])
    ∙ ap (λ l. fields_text (take i fields) ++ l) (append-nil (field_text field)))

pub fields_all : (fields : List Tagged) (i : ℕ) → length fields ≤ i → fields_text (take i fields) ≡ fields_text fields
fields_all fields i past = ap fields_text (take_all i fields past)
