-- The world as it is printed: a line a venue, and then a line a sweep.
use Rattle.std.specs.Prelude.{ℕ, suc, List, [], ◌∷◌, ◌++◌, map, codes, decimal, Option, Some, None}
use Rattle.std.specs.Option.{option_map_or}
use Rattle.leg.specs.LegId.{LegIdParts, leg_id_text}
use Rattle.leg.specs.declared.sweep.Routed.{Routed}
use Rattle.leg.specs.declared.totals.Totals.{Totals}
use Rattle.session_core.specs.declared.phase.Phase.{Phase}
use Rattle.session_core.specs.declared.phase.Phase.TheVariants.{Down, LoggingOn, Settling, Up, Closing, LoggedOut, Closed}
use Rattle.exchange_core.specs.Exchange.{accepted_by}
use Rattle.share_ledger.specs.Entries.{sweep_shares}
use Rattle.schedule.specs.World.{World, VenueParts, withdrawn_ids, doubtful_ids, totals}

-- texts with a space between any two
abbrev pub spaced : List (List ℕ) → List ℕ
spaced [] = []
spaced (text ∷ []) = text
spaced (text ∷ more ∷ texts) = text ++ 32 ∷ spaced (more ∷ texts)

-- legs by their numbers, as `[S1L1 S1L2]`
abbrev pub legs_text : List LegIdParts → List ℕ
legs_text ids = codes "[" ++ spaced (map leg_id_text ids) ++ codes "]"

abbrev pub phase_text : Phase → List ℕ
phase_text Down = codes "down"
phase_text LoggingOn = codes "logon"
phase_text Settling = codes "settling"
phase_text Up = codes "up"
phase_text Closing = codes "closing"
phase_text LoggedOut = codes "logout"
phase_text Closed = codes "closed"

-- whether the exchange took the session's Logout
abbrev pub closed_text : Option ℕ → List ℕ
closed_text (Some count) = codes "yes"
closed_text None = codes "no"

abbrev pub venue_line : World → ℕ → VenueParts → List ℕ
venue_line w v venue =
    codes "venue " ++ decimal v
    ++ codes " accepted " ++ legs_text (map (λ leg. leg.id) (accepted_by venue.exchange))
    ++ codes " withdrawn " ++ legs_text (withdrawn_ids w v)
    ++ codes " doubt " ++ legs_text (doubtful_ids w v)
    ++ codes " phase " ++ phase_text venue.session.phase
    ++ codes " closed " ++ closed_text venue.exchange.closed_at
    ++ 10 ∷ []

abbrev pub parts_text : Totals → List ℕ
parts_text t =
    codes " filled " ++ decimal t.filled
    ++ codes " busted " ++ decimal t.busted
    ++ codes " cancelled " ++ decimal t.cancelled
    ++ codes " withdrawn " ++ decimal t.withdrawn
    ++ codes " open " ++ decimal t.still_open

abbrev pub sweep_line : World → ℕ → List Routed → List ℕ
sweep_line w number legs =
    codes "sweep " ++ decimal number ++ codes " legs " ++ decimal (sweep_shares legs)
    ++ option_map_or parts_text (totals w number) [] ++ 10 ∷ []

-- the lines of the venues, of which the first has this number, and those of the sweeps
abbrev pub venue_lines : World → ℕ → List VenueParts → List ℕ
venue_lines w v [] = []
venue_lines w v (venue ∷ venues) = venue_line w v venue ++ venue_lines w (suc v) venues

abbrev pub sweep_lines : World → ℕ → List (List Routed) → List ℕ
sweep_lines w number [] = []
sweep_lines w number (legs ∷ sweeps) = sweep_line w number legs ++ sweep_lines w (suc number) sweeps

abbrev pub printed : World → List ℕ
printed w = venue_lines w 0 w.venues ++ sweep_lines w 1 w.desk.sweeps
