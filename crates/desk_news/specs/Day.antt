-- What a day came to.
use Rattle.std.specs.Prelude.{ℕ, List, ◌++◌, codes, decimal}
use Rattle.desk_news.specs.declared.day_totals.DayTotals.{DayTotals}

-- the shares of a day, as `day placed 300 resolved 250 open 50`
abbrev pub day_text : DayTotals → List ℕ
day_text totals =
    codes "day placed " ++ decimal totals.placed ++ codes " resolved " ++ decimal totals.resolved
    ++ codes " open " ++ decimal totals.still_open
