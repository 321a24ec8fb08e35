-- Who may ask, and what for.
use Rattle.std.specs.Prelude.{◌≡◌, ℕ, Bool, true, List, Option, Some, None, position, slice_get, string_bytes, codes}
use Rattle.std.specs.Str.{bytes_eq}
use Rattle.desk_http.specs.declared.call.Call.{Call}
use Rattle.desk_http.specs.declared.call.Call.TheVariants as call
use Rattle.desk_http.specs.declared.user.Right.{Right}
use Rattle.desk_http.specs.declared.user.Right.TheVariants.{Read, Trade, Close, Halt}
use Rattle.desk_http.specs.declared.user.Rights.{Rights}
use Rattle.desk_http.specs.declared.user.User.{User}

-- whether a right is among those that a user has
abbrev pub has_right : Rights → Right → Bool
has_right rights Read = rights.read
has_right rights Trade = rights.trade
has_right rights Close = rights.close
has_right rights Halt = rights.halt

-- the right that a call needs: to read, to hand in a sweep, to close the day, to halt the desk. The page itself is
-- everybody's
abbrev pub right_of : Call → Option Right
right_of call.Page = None
right_of call.Place = Some Trade
right_of (call.Sweeps after most) = Some Read
right_of (call.Sweep number) = Some Read
right_of call.Find = Some Read
right_of (call.Executions after most) = Some Read
right_of call.Venues = Some Read
right_of call.Events = Some Read
right_of call.Close = Some Close
right_of call.Halt = Some Halt
right_of call.Resume = Some Halt
right_of call.Metrics = Some Read

-- whether this is a user's token
abbrev pub is_token_of : List ℕ → User → Bool
is_token_of authorization user = bytes_eq authorization (string_bytes user.authorization)

-- the place of the first user whose token this is
abbrev pub user_with : List User → List ℕ → Option ℕ
user_with users authorization = position (is_token_of authorization) users

-- the user at this place has this token and this right
pub record IsAllowedBy (users : List User) (authorization : List ℕ) (right : Right) (place : ℕ) : Type 0 where
  pub user : User
  pub there : slice_get users place ≡ Some user
  pub token : authorization ≡ string_bytes user.authorization
  pub may : has_right user.rights right ≡ true
