-- The users that were read so far.
use Rattle.std.proofs.Common.{◌≡◌, ℕ, ◌+◌, ◌<◌, List, [], ◌∷◌, ◌++◌, length, drop, get_or, ap, ◌∙◌}
use Rattle.std.specs.Prelude.{Result, Ok, Err}
use Rattle.toml.specs.declared.value.Value.{Value}
use Rattle.toml.specs.View.{view, items_view}
use Rattle.toml.proofs.Views.{items_view-drop}
use Rattle.desk_config.specs.declared.fault.KeyFault.{KeyFault}
use Rattle.desk_config.specs.declared.user.User.{User}
use Rattle.desk_config.specs.Users.{users_from, next_user}
use Rattle.desk_config.specs.Reading.{and_then}

-- what the tables from an index on say
abbrev pub users_at : List User → List Value → ℕ → Result (List User) KeyFault
users_at earlier values i = users_from earlier (items_view (drop i values))

-- a user more, and what the tables behind it say
abbrev pub behind : List User → List Value → ℕ → User → Result (List User) KeyFault
behind earlier values i user = users_at (earlier ++ user ∷ []) values (i + 1)

-- the next table, and those behind it
users_step : (earlier : List User) (values : List Value) (i : ℕ) (d : Value) → i < length values
    → users_at earlier values i
    ≡ and_then (next_user earlier (view (get_or values i d))) (behind earlier values i)
unfolding users_from
users_step earlier values i d within = ap (users_from earlier) (items_view-drop values i d within)

-- a user that was read
pub user_read : (earlier : List User) (values : List Value) (i : ℕ) (d : Value) (user : User)
    → i < length values
    → next_user earlier (view (get_or values i d)) ≡ Ok user
    → users_from earlier (items_view (drop i values))
    ≡ users_from (earlier ++ user ∷ []) (items_view (drop (i + 1) values))
user_read earlier values i d user within read =
    users_step earlier values i d within ∙ ap (λ r. and_then r (behind earlier values i)) read

-- a user with a fault
pub user_refused : (earlier : List User) (values : List Value) (i : ℕ) (d : Value) (fault : KeyFault)
    → i < length values
    → next_user earlier (view (get_or values i d)) ≡ Err fault
    → users_from earlier (items_view (drop i values)) ≡ Err fault
user_refused earlier values i d fault within refused =
    users_step earlier values i d within ∙ ap (λ r. and_then r (behind earlier values i)) refused

pub ruleset user_steps = (user_read, user_refused)
