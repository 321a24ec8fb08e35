-- The fields of an order that were read so far.
use Rattle.std.proofs.Common.{◌≡◌, ℕ, suc, ◌+◌, ◌<◌, List, length, drop, get_or, ap, ◌∙◌}
use Rattle.std.specs.Prelude.{Result, Ok, Err}
use Rattle.toml.specs.declared.value.Value.{Value}
use Rattle.toml.specs.View.{view, items_view}
use Rattle.toml.proofs.Views.{items_view-drop}
use Rattle.dialect.specs.declared.words.Words.{Words}
use Rattle.desk_config.specs.declared.fault.Fault.{Fault}
use Rattle.desk_config.specs.Reading.{and_then}
use Rattle.desk_config.specs.Words.{fields_from, next_field}

-- the next field, and those behind it
fields_step : (w : Words) (fields : List Value) (i : ℕ) (d : Value) → i < length fields
    → fields_from w (suc i) (items_view (drop i fields))
    ≡ and_then (next_field w (suc i) (view (get_or fields i d)))
    (λ next. fields_from next (suc (suc i)) (items_view (drop (i + 1) fields)))
unfolding fields_from
fields_step w fields i d within = ap (fields_from w (suc i)) (items_view-drop fields i d within)

-- a field that was taken
pub field_read : (w next : Words) (fields : List Value) (i : ℕ) (d : Value) → i < length fields
    → next_field w (suc i) (view (get_or fields i d)) ≡ Ok next
    → fields_from w (suc i) (items_view (drop i fields))
    ≡ fields_from next (suc (suc i)) (items_view (drop (i + 1) fields))
field_read w next fields i d within read =
    fields_step w fields i d within
    ∙ ap (λ r. and_then r (λ next. fields_from next (suc (suc i)) (items_view (drop (i + 1) fields)))) read

-- a field that wasn't
pub field_refused : (w : Words) (fields : List Value) (i : ℕ) (d : Value) (fault : Fault) → i < length fields
    → next_field w (suc i) (view (get_or fields i d)) ≡ Err fault
    → fields_from w (suc i) (items_view (drop i fields)) ≡ Err fault
field_refused w fields i d fault within refused =
    fields_step w fields i d within
    ∙ ap (λ r. and_then r (λ next. fields_from next (suc (suc i)) (items_view (drop (i + 1) fields)))) refused

pub ruleset field_steps = (field_read, field_refused)
