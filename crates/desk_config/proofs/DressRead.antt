-- The fields of a header or a Logon that were read so far.
use Rattle.std.proofs.Common.{◌≡◌, ℕ, suc, ◌+◌, ◌<◌, List, length, drop, get_or, ap, ◌∙◌}
use Rattle.std.specs.Prelude.{Result, Ok, Err}
use Rattle.toml.specs.declared.value.Value.{Value}
use Rattle.toml.specs.View.{view, items_view}
use Rattle.toml.proofs.Views.{items_view-drop}
use Rattle.venue_words.specs.Dress.{DressParts}
use Rattle.venue_words.specs.declared.words.VenueWords.{VenueWords}
use Rattle.desk_config.specs.declared.dress_keys.Part.{Part}
use Rattle.desk_config.specs.declared.fault.Fault.{Fault}
use Rattle.desk_config.specs.Reading.{and_then}
use Rattle.desk_config.specs.Dress.{fields_from, next_field}

-- the next field, and those behind it
dress_step : (part : Part) (w : VenueWords) (dress : DressParts) (fields : List Value) (i : ℕ) (d : Value)
    → i < length fields
    → fields_from part w dress (suc i) (items_view (drop i fields))
    ≡ and_then (next_field part w dress (suc i) (view (get_or fields i d)))
    (λ next. fields_from part w next (suc (suc i)) (items_view (drop (i + 1) fields)))
unfolding fields_from
dress_step part w dress fields i d within = ap (fields_from part w dress (suc i)) (items_view-drop fields i d within)

-- a field that was taken
pub dress_read : (part : Part) (w : VenueWords) (dress next : DressParts) (fields : List Value) (i : ℕ) (d : Value)
    → i < length fields
    → next_field part w dress (suc i) (view (get_or fields i d)) ≡ Ok next
    → fields_from part w dress (suc i) (items_view (drop i fields))
    ≡ fields_from part w next (suc (suc i)) (items_view (drop (i + 1) fields))
dress_read part w dress next fields i d within read =
    dress_step part w dress fields i d within
    ∙ ap (λ r. and_then r (λ next. fields_from part w next (suc (suc i)) (items_view (drop (i + 1) fields)))) read

-- a field that wasn't
pub dress_refused : (part : Part) (w : VenueWords) (dress : DressParts) (fields : List Value) (i : ℕ) (d : Value)
    (fault : Fault) → i < length fields
    → next_field part w dress (suc i) (view (get_or fields i d)) ≡ Err fault
    → fields_from part w dress (suc i) (items_view (drop i fields)) ≡ Err fault
dress_refused part w dress fields i d fault within refused =
    dress_step part w dress fields i d within
    ∙ ap (λ r. and_then r (λ next. fields_from part w next (suc (suc i)) (items_view (drop (i + 1) fields)))) refused

pub ruleset dress_steps = (dress_read, dress_refused)
