-- What a request asks for.
use Rattle.std.specs.Prelude.{ℕ, Bool, true, false, List, drop, Option, Some, None, Result, Ok, Err, codes, nat_eq, if◌then◌else◌}
use Rattle.std.specs.Option.{option_map}
use Rattle.std.specs.List.{starts_with}
use Rattle.std.specs.Str.{bytes_eq}
use Rattle.fix_tags.specs.Number.{number_of}
use Rattle.desk_http.specs.declared.call.Call.{Call}
use Rattle.desk_http.specs.declared.call.Call.TheVariants as call
use Rattle.desk_http.specs.declared.call.Place.{Place}
use Rattle.desk_http.specs.declared.call.Place.TheVariants as place
use Rattle.desk_http.specs.declared.refused.Refused.{Refused}
use Rattle.desk_http.specs.declared.refused.Refused.TheVariants.{NoMethod, BadQuery}
use Rattle.desk_http.specs.declared.request.Method.{Method}
use Rattle.desk_http.specs.declared.request.Method.TheVariants.{Get, Post, Other}
use Rattle.desk_http.specs.declared.status.Allow.TheVariants as allow
use Rattle.desk_http.specs.declared.window.Window.{Window}
use Rattle.desk_http.specs.Window.{window_of}

-- the sweep that a path names, as `/api/sweeps/12`
abbrev pub sweep_place : List ℕ → Option Place
sweep_place path =
    if starts_with nat_eq path (codes "/api/sweeps/") then option_map place.Sweep (number_of (drop 12 path)) else None

-- what is served at a path
abbrev pub place_of : List ℕ → Option Place
place_of path =
    if bytes_eq path (codes "/") then Some place.Page
    else (if bytes_eq path (codes "/api/sweeps") then Some place.Sweeps
    else (if bytes_eq path (codes "/api/executions") then Some place.Executions
    else (if bytes_eq path (codes "/api/venues") then Some place.Venues
    else (if bytes_eq path (codes "/api/events") then Some place.Events
    else (if bytes_eq path (codes "/api/close") then Some place.Close
    else (if bytes_eq path (codes "/api/halt") then Some place.Halt
    else (if bytes_eq path (codes "/api/resume") then Some place.Resume
    else (if bytes_eq path (codes "/metrics") then Some place.Metrics
    else sweep_place path))))))))

-- the sweeps of a window
abbrev pub window_call : Option Window → Result Call Refused
window_call None = Err BadQuery
window_call (Some window) = Ok (call.Sweeps window.after window.most)

-- the executions of a window
abbrev pub executions_in : Option Window → Result Call Refused
executions_in None = Err BadQuery
executions_in (Some window) = Ok (call.Executions window.after window.most)

-- what is asked of the sweeps
abbrev pub sweeps_call : Method → List ℕ → Result Call Refused
sweeps_call Get query =
    if starts_with nat_eq query (codes "ref=") then Ok call.Find else window_call (window_of query)
sweeps_call Post query = Ok call.Place
sweeps_call Other query = Err (NoMethod allow.Both)

-- what is asked of the executions
abbrev pub executions_call : Method → List ℕ → Result Call Refused
executions_call Get query = executions_in (window_of query)
executions_call Post query = Err (NoMethod allow.Get)
executions_call Other query = Err (NoMethod allow.Get)

-- a call by GET alone
abbrev pub by_get : Method → Call → Result Call Refused
by_get Get asked = Ok asked
by_get Post asked = Err (NoMethod allow.Get)
by_get Other asked = Err (NoMethod allow.Get)

-- a call by POST alone
abbrev pub by_post : Method → Call → Result Call Refused
by_post Post asked = Ok asked
by_post Get asked = Err (NoMethod allow.Post)
by_post Other asked = Err (NoMethod allow.Post)

-- what a method and a query ask for at a place
abbrev pub call_at : Place → Method → List ℕ → Result Call Refused
call_at place.Page method query = by_get method call.Page
call_at place.Sweeps method query = sweeps_call method query
call_at (place.Sweep number) method query = by_get method (call.Sweep number)
call_at place.Executions method query = executions_call method query
call_at place.Venues method query = by_get method call.Venues
call_at place.Events method query = by_get method call.Events
call_at place.Close method query = by_post method call.Close
call_at place.Halt method query = by_post method call.Halt
call_at place.Resume method query = by_post method call.Resume
call_at place.Metrics method query = by_get method call.Metrics

-- whether a call hands in, closes or halts
abbrev pub changes_the_day : Call → Bool
changes_the_day call.Page = false
changes_the_day call.Place = true
changes_the_day (call.Sweeps after most) = false
changes_the_day (call.Sweep number) = false
changes_the_day call.Find = false
changes_the_day (call.Executions after most) = false
changes_the_day call.Venues = false
changes_the_day call.Events = false
changes_the_day call.Close = true
changes_the_day call.Halt = true
changes_the_day call.Resume = true
changes_the_day call.Metrics = false
