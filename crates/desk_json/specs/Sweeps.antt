-- Sweeps and the day's sums, in JSON.
use Rattle.std.specs.Prelude.{ℕ, Bool, true, false, List, [], ◌++◌, codes, decimal}
use Rattle.leg.specs.declared.totals.Totals.{Totals}
use Rattle.desk_news.specs.declared.paid.Paid.{Paid}
use Rattle.desk_news.specs.declared.paid.PaidSweep.{PaidSweep}
use Rattle.desk_news.specs.declared.day_totals.DayTotals.{DayTotals}
use Rattle.desk_json.specs.declared.standing.SweepsPage.{SweepsPage}
use Rattle.desk_json.specs.Paid.{paid_json}
use Rattle.desk_json.specs.Parted.{parted}

-- the five parts of shares, as they stand in an object
abbrev pub parts_json : Totals → List ℕ
parts_json totals =
    codes "\"filled\":" ++ decimal totals.filled ++ codes ",\"busted\":" ++ decimal totals.busted
    ++ codes ",\"cancelled\":" ++ decimal totals.cancelled ++ codes ",\"withdrawn\":" ++ decimal totals.withdrawn
    ++ codes ",\"open\":" ++ decimal totals.still_open

-- the five parts and what was paid for them
unfoldable pub shares_json : Totals → Paid → List ℕ
shares_json totals paid = parts_json totals ++ paid_json paid

-- a sweep of 150 shares, as `{"sweep":12,"legs":150,"filled":60,"busted":0,"cancelled":40,"withdrawn":0,"open":50`,
-- what was paid for it, and `}`
abbrev pub sweep_json : PaidSweep → List ℕ
sweep_json sweep =
    codes "{\"sweep\":" ++ decimal sweep.parts.sweep ++ codes ",\"legs\":" ++ decimal sweep.parts.shares ++ codes ","
    ++ shares_json sweep.parts.totals sweep.paid ++ codes "}"

-- as `{"placed":300,"resolved":250,"open":50}`
abbrev pub day_json : DayTotals → List ℕ
day_json totals =
    codes "{\"placed\":" ++ decimal totals.placed ++ codes ",\"resolved\":" ++ decimal totals.resolved
    ++ codes ",\"open\":" ++ decimal totals.still_open ++ codes "}"

-- whether the day is closing, with the end of the object
abbrev pub closing_json : Bool → List ℕ
closing_json true = codes ",\"closing\":true}"
closing_json false = codes ",\"closing\":false}"

-- as `{"sweeps":[..],"day":{..},"closing":false}`
abbrev pub sweeps_json : SweepsPage → List ℕ
sweeps_json page =
    codes "{\"sweeps\":[" ++ parted sweep_json [] page.sweeps.items ++ codes "],\"day\":" ++ day_json page.day
    ++ closing_json page.is_closing
