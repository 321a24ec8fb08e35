-- Which sweeps or executions a query asks for.
use Rattle.std.specs.Prelude.{ℕ, List, [], ◌∷◌, drop, length, min, Option, Some, None, option_and_then, ◌==◌, codes, nat_eq, if◌then◌else◌}
use Rattle.std.specs.Option.{option_map}
use Rattle.std.specs.List.{starts_with}
use Rattle.fix_tags.specs.Number.{number_of}
use Rattle.desk_http.specs.declared.window.Window.{Window}
use Rattle.desk_http.specs.Parts.{parts_at}

-- a window with what a piece of the query says, as `after=100` or `most=50`
unfoldable pub with_piece : Window → List ℕ → Option Window
with_piece window piece =
    if length piece == 0 then Some window
    else (if starts_with nat_eq piece (codes "after=")
    then option_map (λ n. record { after = n; most = window.most }) (number_of (drop 6 piece))
    else (if starts_with nat_eq piece (codes "most=")
    then option_map (λ n. record { after = window.after; most = min n 200 }) (number_of (drop 5 piece))
    else None))

-- the window of two pieces
abbrev pub window_in : List ℕ × List ℕ → Option Window
window_in pieces =
    option_and_then (λ window. with_piece window pieces.1)
    (with_piece (record { after = 0; most = 200 }) pieces.0)

-- the window of a query: `after=N` and `most=N`; where one is missing 0 and 200
abbrev pub window_of : List ℕ → Option Window
window_of query = window_in (parts_at 38 query)
