-- The users of a file: its tables `[[user]]`.
use Rattle.std.specs.Prelude.{◌≡◌, ℕ, ◌+◌, Bool, false, ◌&&◌, nat_le, List, [], ◌∷◌, ◌++◌, length, codes, Option, Some, None, option_and_then, position, Result, Ok, Err, if◌then◌else◌, Vec}
use Rattle.std.specs.Str.{bytes_eq}
use Rattle.std.specs.declared.alloc.Global.{Global}
use Rattle.toml.specs.Data.{Data, array, as_str, get, Items, no_items, item}
use Rattle.desk_config.specs.declared.fault.ConfigFault.{ConfigFault}
use Rattle.desk_config.specs.declared.fault.ConfigFault.TheVariants as fault
use Rattle.desk_config.specs.declared.fault.Fault.{Fault}
use Rattle.desk_config.specs.declared.fault.Fault.TheVariants.{Missing, Bad, TwoTokens, SameUser, SameToken}
use Rattle.desk_config.specs.declared.fault.KeyFault.{KeyFault}
use Rattle.desk_config.specs.declared.key.Key.TheVariants as key
use Rattle.desk_config.specs.declared.keys.Keys.TheVariants as keys
use Rattle.desk_config.specs.declared.place.Place.{Place}
use Rattle.desk_config.specs.declared.place.Place.TheVariants as place
use Rattle.desk_config.specs.declared.user.User.{User}
use Rattle.desk_config.specs.declared.user.UserToken.{UserToken}
use Rattle.desk_config.specs.declared.user.UserToken.TheVariants as known
use Rattle.desk_config.specs.Desk.{printable_in}
use Rattle.desk_config.specs.Found.{found_of, items_count}
use Rattle.desk_config.specs.Reading.{and_then, checked, in_place, needed, value_at}
use Rattle.desk_config.specs.Rights.{rights_in}
use Rattle.desk_config.specs.User.{user_name_of}

-- a user's name, as the file spells it
abbrev pub user_name_in : Data → Option (List ℕ)
user_name_in given = option_and_then user_name_of (as_str given)

-- how a user is known: by a token, or by that of a file
abbrev pub known_by : Option (List ℕ) → Option (List ℕ) → Result UserToken Fault
known_by (Some token) None = Ok (known.Text token)
known_by None (Some file) = Ok (known.File file)
known_by (Some token) (Some file) = Err TwoTokens
known_by None None = Err (Missing key.Token)

unfoldable pub user_token_in : Data → Result UserToken Fault
user_token_in given =
    and_then (value_at (printable_in 128) key.Token given) (λ token.
    and_then (value_at (printable_in 200) key.TokenFile given) (λ file. known_by token file))

-- what a table says, or its first fault
unfoldable pub user_in : Data → Result User Fault
user_in given =
    and_then (checked keys.User given) (λ _.
    and_then (needed user_name_in key.UserName given) (λ name.
    and_then (user_token_in given) (λ token.
    and_then (rights_in given) (λ may. Ok (record { name = name; token = token; may = may })))))

-- whether two users have the same name, or are known by the same token
abbrev pub same_user_name : User → User → Bool
same_user_name one other = bytes_eq one.name other.name

abbrev pub same_token : UserToken → UserToken → Bool
same_token (known.Text one) (known.Text other) = bytes_eq one other
same_token (known.File one) (known.File other) = bytes_eq one other
same_token _ _ = false

-- the fault of a user with the name or the token of the user at this index
abbrev pub same_user : Option ℕ → Option ℕ → Result (Unit {0}) Fault
same_user (Some index) _ = Err (SameUser (index + 1))
same_user None (Some index) = Err (SameToken (index + 1))
same_user None None = Ok tt

-- no earlier user has the name of a user, nor its token
unfoldable pub user_apart : List User → User → Result (Unit {0}) Fault
user_apart earlier user =
    same_user (position (λ other. same_user_name other user) earlier)
    (position (λ other. same_token other.token user.token) earlier)

-- the name of a user, where its table has one
abbrev pub named_user : Data → Option (List ℕ)
named_user given = option_and_then user_name_in (get (codes "name") given)

abbrev pub user_place : List User → Data → Place
user_place earlier given = place.User (length earlier + 1) (named_user given)

-- what the table of the next user says, or its first fault
unfoldable pub next_user : List User → Data → Result User KeyFault
next_user earlier given =
    in_place (user_place earlier given) (and_then (user_in given) (λ user.
    and_then (user_apart earlier user) (λ _. Ok user)))

-- what the tables that are left say, behind earlier users, or the first fault
unfoldable pub users_from : List User → Items → Result (List User) KeyFault
users_from earlier no_items = Ok earlier
users_from earlier (item given rest) =
    and_then (next_user earlier given) (λ user. users_from (earlier ++ user ∷ []) rest)

-- whether a file may have this many users
abbrev pub is_user_count : ℕ → Bool
is_user_count n = nat_le 1 n && nat_le n 32

-- the tables of an array of 1 to 32
unfoldable pub user_items : Data → Result Items Fault
user_items (array items) =
    if is_user_count (items_count items) then Ok items else Err (Bad key.User (found_of (array items)))
user_items given = Err (Bad key.User (found_of given))

-- no users where there is no table
abbrev pub users_found : Option Data → Result (List User) KeyFault
users_found None = Ok []
users_found (Some given) = and_then (in_place place.File (user_items given)) (λ items. users_from [] items)

-- what the users of a file say, or the first fault
unfoldable pub users_of : Data → Result (List User) KeyFault
users_of file = users_found (get (codes "user") file)

-- the answer is what is said, or its fault; or memory ran out
abbrev pub AnswersUsers : Result (List User) KeyFault → Result (Vec User Global) ConfigFault → Type 0
AnswersUsers said (Ok users) = said ≡ Ok users.items
AnswersUsers said (Err (fault.Key key_fault)) = said ≡ Err key_fault
AnswersUsers said (Err fault.OutOfMemory) = Unit {0}
AnswersUsers said (Err (fault.Toml error)) = ⊥
