-- What `dispatch live` prints.
use Rattle.std.specs.Prelude.{ℕ, List, [], ◌∷◌, ◌++◌, codes, decimal, Some}
use Rattle.std.specs.List.{flat_map}
use Rattle.world_text.specs.SweepLine.{shares_line}
use Rattle.desk_news.specs.declared.paid.PaidSweep.{PaidSweep}
use Rattle.live_load.specs.declared.day.LiveDay.{LiveDay}
use Rattle.live_load.specs.declared.day.LiveVenue.{LiveVenue}
use Rattle.session_worker.specs.declared.day_report.DayReport.{DayReport}

-- the line of a sweep
abbrev pub sweep_line : PaidSweep → List ℕ
sweep_line sweep = shares_line sweep.parts.sweep sweep.parts.shares (Some sweep.parts.totals)

-- a line for each sweep
abbrev pub sweep_lines : List PaidSweep → List ℕ
sweep_lines sweeps = flat_map sweep_line sweeps

-- the line of a venue: how often its session was connected, how many of its legs stay in doubt, and how many were lost
abbrev pub venue_line : LiveVenue → List ℕ
venue_line venue =
    codes "venue " ++ decimal venue.number
    ++ codes " connections " ++ decimal venue.connections
    ++ codes " doubt " ++ decimal venue.doubts
    ++ codes " lost " ++ decimal venue.lost ++ 10 ∷ []

-- a line for each venue
abbrev pub venue_lines : List LiveVenue → List ℕ
venue_lines venues = flat_map venue_line venues

-- the shares of all sweeps placed: those that are filled, busted, cancelled or withdrawn, and those that are open
abbrev pub report_line : DayReport → List ℕ
report_line report =
    codes "day placed " ++ decimal report.placed
    ++ codes " resolved " ++ decimal report.resolved
    ++ codes " open " ++ decimal report.still_open ++ 10 ∷ []

-- the lines of the sweeps and of the venues, how many sweeps were given up, the shares, and what the audit told
abbrev pub day_text : LiveDay → List ℕ
day_text day =
    sweep_lines day.sweeps.items
    ++ venue_lines day.venues.items
    ++ codes "unplaced " ++ decimal day.unplaced ++ 10 ∷ []
    ++ report_line day.report
    ++ codes "audit ok" ++ 10 ∷ []
