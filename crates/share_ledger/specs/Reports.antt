-- The reports booked for a venue, by their ids, and what a report makes of its leg.
use Rattle.std.specs.Prelude.{ℕ, List, Bool, false, Option, Some, None, Result, Ok, Err, bytes_eq, if◌then◌else◌}
use Rattle.std.specs.HashMap as table
use Rattle.leg.specs.LegId.{LegIdParts}
use Rattle.leg.specs.Split.{SplitAnswer, split_fill, split_cancel_rest, split_bust}
use Rattle.dialect.specs.declared.report.Report.{Report}
use Rattle.dialect.specs.declared.report.ReportKind.{ReportKind}
use Rattle.dialect.specs.declared.report.ReportKind.TheVariants.{New, Trade, Canceled, Rejected, Expired, Bust}
use Rattle.share_ledger.specs.declared.applied.Applied.{Applied}
use Rattle.share_ledger.specs.declared.applied.Applied.TheVariants as applied
use Rattle.share_ledger.specs.declared.booked_leg.BookedLeg.{BookedLeg}
use Rattle.share_ledger.specs.declared.reports.BookedTrade.{BookedTrade}
use Rattle.share_ledger.specs.declared.reports.Reports.{Reports}
use Rattle.share_ledger.specs.Entries.{is_same_leg}

-- what is kept under an id: the trade that its report told, unless it was busted
abbrev pub report_at : Reports → List ℕ → Option (Option BookedTrade)
report_at reports exec = table.get bytes_eq reports.by_id exec

-- the shares of a trade that is kept, if it is on this leg
abbrev pub shares_on : LegIdParts → Option (Option BookedTrade) → Option ℕ
shares_on id None = None
shares_on id (Some None) = None
shares_on id (Some (Some trade)) = if is_same_leg trade.leg id then Some trade.shares else None

-- the trade that a report tells
abbrev pub trade_told : LegIdParts → ReportKind → Option BookedTrade
trade_told id New = None
trade_told id (Trade fill) = Some (record { leg = id; shares = fill.shares })
trade_told id Canceled = None
trade_told id Rejected = None
trade_told id Expired = None
trade_told id (Bust cancelled_id) = None

-- whether a report busts the trade of this id
abbrev pub busts : ReportKind → List ℕ → Bool
busts New exec = false
busts (Trade fill) exec = false
busts Canceled exec = false
busts Rejected exec = false
busts Expired exec = false
busts (Bust cancelled_id) exec = bytes_eq cancelled_id exec

-- what is kept of a report whose trade is busted
abbrev pub emptied : Option (Option BookedTrade) → Option (Option BookedTrade)
emptied None = None
emptied (Some trade) = Some None

-- what is kept under an id, once a report is kept there, or none
abbrev pub with_report : List ℕ → Option BookedTrade → Reports → List ℕ → Option (Option BookedTrade)
with_report own trade reports exec = if bytes_eq own exec then Some trade else report_at reports exec

-- what is kept under an id, once a report was booked
abbrev pub report_after : Reports → Report → List ℕ → Option (Option BookedTrade)
report_after reports report exec =
    if busts report.kind exec
    then emptied (with_report report.exec (trade_told report.id report.kind) reports exec)
    else with_report report.exec (trade_told report.id report.kind) reports exec

-- the leg with the parts that a split's call leaves, or the answer where it is refused
abbrev pub with_parts : ℕ → Applied → SplitAnswer → Result BookedLeg Applied
with_parts venue refused (Ok done, parts) = Ok (record { venue = venue; parts = parts })
with_parts venue refused (Err fault, parts) = Err refused

-- a bust of so many shares of the leg, if the trade is there
abbrev pub bust_leg : BookedLeg → Option ℕ → Result BookedLeg Applied
bust_leg was None = Err applied.Stray
bust_leg was (Some shares) = with_parts was.venue applied.Stray (split_bust was.parts shares)

-- the end of the leg's order
abbrev pub ended_leg : BookedLeg → BookedLeg
ended_leg was = record { venue = was.venue; parts = split_cancel_rest was.parts }

-- the leg after a report on it, or the answer where it doesn't move
abbrev pub moved_by : Reports → LegIdParts → ReportKind → BookedLeg → Result BookedLeg Applied
moved_by reports id New was = Ok was
moved_by reports id (Trade fill) was = with_parts was.venue applied.Overfill (split_fill was.parts fill.shares)
moved_by reports id Canceled was = Ok (ended_leg was)
moved_by reports id Rejected was = Ok (ended_leg was)
moved_by reports id Expired was = Ok (ended_leg was)
moved_by reports id (Bust cancelled_id) was = bust_leg was (shares_on id (report_at reports cancelled_id))
