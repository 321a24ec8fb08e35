-- How a venue stands, in words.
use Rattle.std.specs.Prelude.{ℕ, List, ◌++◌, codes, decimal}
use Rattle.desk_news.specs.declared.venue_state.VenueState.{VenueState}
use Rattle.desk_news.specs.declared.venue_state.VenueState.TheVariants.{Dialled, Up, Down, Unreachable, Closed}
use Rattle.desk_news.specs.Cause.{cause_text}

-- as `dialled`, `up`, `down: it was silent (E10)`, `unreachable: connection refused, next try in 4 s` or
-- `closed: it logged out (E07)`
abbrev pub state_text : VenueState → List ℕ
state_text Dialled = codes "dialled"
state_text Up = codes "up"
state_text (Down cause) = codes "down: " ++ cause_text cause
state_text (Unreachable why seconds) =
    codes "unreachable: " ++ why ++ codes ", next try in " ++ decimal seconds ++ codes " s"
state_text (Closed cause) = codes "closed: " ++ cause_text cause
