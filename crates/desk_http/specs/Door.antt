-- Who may ask what.
use Rattle.std.specs.Prelude.{◌≡◌, ◌≤◌, ℕ, ⊤, Bool, true, false, not, ◌&&◌, ◌||◌, ◌==◌, List, drop, length, slice_get, Option, Some, None, Result, Ok, Err, String, string_bytes, codes, nat_eq, if◌then◌else◌}
use Rattle.std.specs.declared.alloc.Global.{Global}
use Rattle.std.specs.Char.{is_ascii_digit}
use Rattle.std.specs.List.{list_all, list_any, starts_with}
use Rattle.std.specs.Str.{bytes_eq}
use Rattle.sweep_text.specs.Legs.{and_then, result_map}
use Rattle.desk_http.specs.declared.admitted.Admitted.{Admitted}
use Rattle.desk_http.specs.declared.call.Call.{Call}
use Rattle.desk_http.specs.declared.call.Place.{Place}
use Rattle.desk_http.specs.declared.door.Door.{Door}
use Rattle.desk_http.specs.declared.refused.Refused.{Refused}
use Rattle.desk_http.specs.declared.refused.Refused.TheVariants.{ForeignHost, NoPlace, ForeignOrigin, NotJson, NoToken, WrongToken, MayNot}
use Rattle.desk_http.specs.declared.request.Method.{Method}
use Rattle.desk_http.specs.declared.request.Request.{Request}
use Rattle.desk_http.specs.Call.{call_at, changes_the_day, place_of}
use Rattle.desk_http.specs.Parts.{parts_at}
use Rattle.desk_http.specs.User.{IsAllowedBy, has_right, right_of, user_with}
use Rattle.desk_http.specs.declared.user.Right.{Right}
use Rattle.desk_http.specs.declared.user.User.{User}

-- whether a host is this name, where there is one
abbrev pub is_named : Option (String Global) → List ℕ → Bool
is_named None host = false
is_named (Some name) host = bytes_eq host (string_bytes name)

-- whether a byte is a digit, a dot (46) or a colon (58)
abbrev pub is_of_numbers : ℕ → Bool
is_of_numbers c = is_ascii_digit c || (c == 46) || (c == 58)

-- whether a host is an address in numbers, as `10.0.0.7:8080`
abbrev pub is_in_numbers : List ℕ → Bool
is_in_numbers host = not (length host == 0) && list_all is_of_numbers host

-- whether a host is one of the names of what is served, whatever port stands behind it (58, a colon)
abbrev pub is_listed : Door → List ℕ → Bool
is_listed door host = list_any (λ other. bytes_eq (string_bytes other) (parts_at 58 host).0) door.names.items

-- whether a host is the address that is served or one of its names, or, where every address is, one in numbers
abbrev pub is_served : Door → List ℕ → Bool
is_served door host =
    bytes_eq host (string_bytes door.host) || is_named door.other_name host || (door.is_open && is_in_numbers host)
    || is_listed door host

-- whether a host of an origin is our own page's, where a request has this host: where every address is served, the
-- same, or one of our names
abbrev pub is_our_host : Door → List ℕ → List ℕ → Bool
is_our_host door host origin =
    if door.is_open then bytes_eq origin host || is_listed door origin else is_served door origin

-- whether an origin is our own page's, where a request has this host: `http://` and its host, or `https://` and one of
-- our names
abbrev pub is_our_page : Door → List ℕ → List ℕ → Bool
is_our_page door host origin =
    (starts_with nat_eq origin (codes "http://") && is_our_host door host (drop 7 origin))
    || (starts_with nat_eq origin (codes "https://") && is_listed door (drop 8 origin))

-- whether a request comes of our own page or of no page at all
abbrev pub is_ours : Door → Request → Bool
is_ours door request = (length request.origin.items == 0) || is_our_page door request.host.items request.origin.items

-- whether a body is said to be JSON
abbrev pub is_json : List ℕ → Bool
is_json content_type =
    bytes_eq content_type (codes "application/json") || starts_with nat_eq content_type (codes "application/json;")

-- where a call changes the day: whether it comes of our own page or of no page, and with JSON
abbrev pub well_sent : Door → Request → Call → Result ⊤ Refused
well_sent door request call =
    if not (changes_the_day call) then Ok tt
    else (if not (is_ours door request) then Err ForeignOrigin
    else (if not (is_json request.content_type.items) then Err NotJson else Ok tt))

-- why nobody is known by this token
abbrev pub unknown : List ℕ → Refused
unknown authorization = if length authorization == 0 then NoToken else WrongToken

-- whether a request has the desk's one token, where one is asked for
abbrev pub knows_token : Door → Request → Bool
knows_token door request =
    (length (string_bytes door.authorization) == 0)
    || bytes_eq request.authorization.items (string_bytes door.authorization)

-- where the desk has no users: its one token is asked for where a call changes the day
abbrev pub by_token : Door → Request → Call → Result (Option ℕ) Refused
by_token door request call =
    if changes_the_day call && not (knows_token door request) then Err (unknown request.authorization.items)
    else Ok None

-- whether the user at a place has a right
abbrev pub may_there : Option User → Right → Bool
may_there None right = false
may_there (Some user) right = has_right user.rights right

-- by this user, if there is one, and he has the right
abbrev pub if_has : List User → Right → Option ℕ → Result (Option ℕ) Refused
if_has users right None = Err WrongToken
if_has users right (Some place) =
    if may_there (slice_get users place) right then Ok (Some place) else Err (MayNot place right)

-- where it has users: by the one whose token it is; what needs no right is everybody's
abbrev pub by_user : List User → List ℕ → Option Right → Result (Option ℕ) Refused
by_user users authorization None = Ok None
by_user users authorization (Some right) =
    if length authorization == 0 then Err NoToken else if_has users right (user_with users authorization)

-- by which user a call is asked for, or why it isn't carried out
abbrev pub asked_by : Door → Request → Call → Result (Option ℕ) Refused
asked_by door request call =
    if length door.users.items == 0 then by_token door request call
    else by_user door.users.items request.authorization.items (right_of call)

-- what is asked for at a place
abbrev pub call_there : Option Place → Method → List ℕ → Result Call Refused
call_there None method query = Err NoPlace
call_there (Some place) method query = call_at place method query

-- what a path and a query ask for
abbrev pub call_by : Method → List ℕ × List ℕ → Result Call Refused
call_by method parts = call_there (place_of parts.0) method parts.1

-- what a request asks for, whoever sent it
unfoldable pub call_of : Request → Result Call Refused
call_of request = call_by request.method (parts_at 63 request.target.items)

-- the call and who asks for it, if it may be carried out
abbrev pub if_may : Door → Request → Call → Result Admitted Refused
if_may door request call =
    and_then (well_sent door request call) (λ _.
    result_map (λ by. record { call = call; by = by }) (asked_by door request call))

-- where the desk has users, what needs a right is asked for by the user at this place, whose token the request has, and
-- who has the right
abbrev pub AsksRightly : Door → Request → Admitted → Type 0
AsksRightly door request admitted =
    (right : Right) → right_of admitted.call ≡ Some right → 1 ≤ length door.users.items
    → ((place : ℕ) × (admitted.by ≡ Some place)
    × IsAllowedBy door.users.items request.authorization.items right place)

-- what a request asks for and may ask for, and by which user
unfoldable pub allowed : Door → Request → Result Admitted Refused
allowed door request =
    if is_served door request.host.items then and_then (call_of request) (if_may door request)
    else Err ForeignHost
