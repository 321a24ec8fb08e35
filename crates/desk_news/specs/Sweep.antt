-- What became of a sweep's shares, in words.
use Rattle.std.specs.Prelude.{ℕ, List, ◌++◌, codes, decimal}
use Rattle.leg.specs.declared.totals.Totals.{Totals}
use Rattle.desk_news.specs.declared.sweep_parts.SweepParts.{SweepParts}

-- the five parts, as `filled 60 busted 0 cancelled 40 withdrawn 0 open 50`
abbrev pub parts_text : Totals → List ℕ
parts_text totals =
    codes "filled " ++ decimal totals.filled ++ codes " busted " ++ decimal totals.busted
    ++ codes " cancelled " ++ decimal totals.cancelled ++ codes " withdrawn " ++ decimal totals.withdrawn
    ++ codes " open " ++ decimal totals.still_open

-- of a sweep of 150 shares, as `sweep 12 legs 150 filled 60 busted 0 cancelled 40 withdrawn 0 open 50`
abbrev pub sweep_text : SweepParts → List ℕ
sweep_text parts =
    codes "sweep " ++ decimal parts.sweep ++ codes " legs " ++ decimal parts.shares ++ codes " "
    ++ parts_text parts.totals
