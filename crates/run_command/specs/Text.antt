-- What `dispatch run` prints at the end of a day.
use Rattle.std.specs.Prelude.{ℕ, List, ◌∷◌, [], ◌++◌, codes}
use Rattle.std.specs.List.{flat_map}
use Rattle.desk_news.specs.Paid.{paid_sweep_text}
use Rattle.desk_news.specs.Doubt.{doubt_text}
use Rattle.desk_news.specs.Day.{day_text as totals_text}
use Rattle.desk_news.specs.declared.paid.PaidSweep.{PaidSweep}
use Rattle.desk_news.specs.declared.day_totals.DayTotals.{DayTotals}
use Rattle.desk_executions.specs.declared.execution.Execution.{Execution}
use Rattle.desk_executions.specs.Execution.{execution_text}
use Rattle.desk_day.specs.declared.day.DeskDay.{DeskDay}
use Rattle.desk_day.specs.declared.day.VenueDoubt.{VenueDoubt}
use Rattle.session_worker.specs.declared.day_report.DayReport.{DayReport}

-- the line of a sweep, with what was paid for it
abbrev pub sweep_line : PaidSweep → List ℕ
sweep_line sweep = paid_sweep_text sweep ++ 10 ∷ []

-- the line of a venue's legs that stay in doubt
abbrev pub doubt_line : VenueDoubt → List ℕ
doubt_line doubt = doubt_text doubt.venue doubt.legs.items ++ 10 ∷ []

-- the shares of a day
abbrev pub totals_of : DayReport → DayTotals
totals_of report = record { placed = report.placed; resolved = report.resolved; still_open = report.still_open }

-- the line of what the book didn't take
abbrev pub unbooked_line : Execution → List ℕ
unbooked_line execution = execution_text execution ++ 10 ∷ []

-- a line for each sweep, one for each execution that the book didn't take, and one for each venue with legs that stay
-- in doubt
abbrev pub booked_text : DeskDay → List ℕ
booked_text day =
    flat_map sweep_line day.sweeps.items ++ flat_map unbooked_line day.unbooked.items
    ++ flat_map doubt_line day.doubts.items

-- the shares of a day, and that the audit found nothing wrong
abbrev pub totals_lines : DayReport → List ℕ
totals_lines report = totals_text (totals_of report) ++ codes "\naudit ok\n"

abbrev pub day_text : DeskDay → List ℕ
day_text day = booked_text day ++ totals_lines day.report
