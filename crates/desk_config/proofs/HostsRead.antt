-- The names that were read so far.
use Rattle.std.proofs.Common.{◌≡◌, ℕ, ◌+◌, ◌<◌, List, [], ◌∷◌, ◌++◌, length, drop, get_or, ap, ◌∙◌}
use Rattle.std.specs.Prelude.{Result, Ok, Err}
use Rattle.toml.specs.declared.value.Value.{Value}
use Rattle.toml.specs.View.{view, items_view}
use Rattle.toml.proofs.Views.{items_view-drop}
use Rattle.desk_config.specs.declared.fault.KeyFault.{KeyFault}
use Rattle.desk_config.specs.Hosts.{hosts_from, next_host}
use Rattle.desk_config.specs.Reading.{and_then}

-- what the values from an index on say
abbrev pub hosts_at : List (List ℕ) → List Value → ℕ → Result (List (List ℕ)) KeyFault
hosts_at earlier values i = hosts_from earlier (items_view (drop i values))

-- a name more, and what the values behind it say
abbrev pub behind : List (List ℕ) → List Value → ℕ → List ℕ → Result (List (List ℕ)) KeyFault
behind earlier values i host = hosts_at (earlier ++ host ∷ []) values (i + 1)

-- the next value, and those behind it
hosts_step : (earlier : List (List ℕ)) (values : List Value) (i : ℕ) (d : Value) → i < length values
    → hosts_at earlier values i
    ≡ and_then (next_host earlier (view (get_or values i d))) (behind earlier values i)
unfolding hosts_from
hosts_step earlier values i d within = ap (hosts_from earlier) (items_view-drop values i d within)

-- a name that was read
pub host_read : (earlier : List (List ℕ)) (values : List Value) (i : ℕ) (d : Value) (host : List ℕ)
    → i < length values
    → next_host earlier (view (get_or values i d)) ≡ Ok host
    → hosts_from earlier (items_view (drop i values))
    ≡ hosts_from (earlier ++ host ∷ []) (items_view (drop (i + 1) values))
host_read earlier values i d host within read =
    hosts_step earlier values i d within ∙ ap (λ r. and_then r (behind earlier values i)) read

-- a value that is none
pub host_refused : (earlier : List (List ℕ)) (values : List Value) (i : ℕ) (d : Value) (fault : KeyFault)
    → i < length values
    → next_host earlier (view (get_or values i d)) ≡ Err fault
    → hosts_from earlier (items_view (drop i values)) ≡ Err fault
host_refused earlier values i d fault within refused =
    hosts_step earlier values i d within ∙ ap (λ r. and_then r (behind earlier values i)) refused

pub ruleset host_steps = (host_read, host_refused)
