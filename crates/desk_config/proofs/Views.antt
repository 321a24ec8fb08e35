-- What the values of a file show.
use Rattle.std.proofs.Common.{◌≡◌, ℕ, zero, suc, ◌<◌, ◌≤◌, List, [], ◌∷◌, length, get_or, Option, Some, None, Bor, refl, sym, ap, ◌∙◌, arith}
use Rattle.std.specs.Prelude.{option_map}
use Rattle.std.specs.Slice.{IsItemAt}
use Rattle.toml.specs.declared.value.Value.{Value}
use Rattle.toml.specs.View.{items_view, view}
use Rattle.toml.proofs.Views.{view-String, view-Integer, view-Float, view-Boolean, view-Datetime, view-Array, view-Table}
use Rattle.desk_config.specs.Addresses.{item_at}
use Rattle.desk_config.specs.Found.{items_count}

-- an array shows as many items as it has
pub items_count_view : (vs : List Value) → items_count (items_view vs) ≡ length vs
items_count_view [] = refl
items_count_view (v ∷ vs) = omega (arith, items_count_view vs)

-- there is no value past the last
item_at_past : (vs : List Value) (i : ℕ) → length vs ≤ i → item_at i (items_view vs) ≡ None
unfolding item_at
item_at_past [] i past = refl
item_at_past (v ∷ vs) zero past = absurd (omega (arith, past))
item_at_past (v ∷ vs) (suc i) past = item_at_past vs i (omega (arith, past))

-- the value at an index
item_at_within : (vs : List Value) (i : ℕ) (d : Value) → i < length vs
    → item_at i (items_view vs) ≡ Some (view (get_or vs i d))
unfolding item_at
item_at_within [] i d within = absurd (omega (arith, within))
item_at_within (v ∷ vs) zero d within = refl
item_at_within (v ∷ vs) (suc i) d within = item_at_within vs i d (omega (arith, within))

-- what is found at an index
pub item_found : (vs : List Value) (i : ℕ) (found : Option (Bor Value)) → IsItemAt vs i found
    → option_map (λ value. view value.now) found ≡ item_at i (items_view vs)
item_found vs i None is = sym (item_at_past vs i is.3)
item_found vs i (Some value) is =
    ap (λ (v : Value). Some (view v)) is.1 ∙ sym (item_at_within vs i value.now is.3.0)

pub ruleset views =
    (view-String, view-Integer, view-Float, view-Boolean, view-Datetime, view-Array, view-Table, items_count_view)
