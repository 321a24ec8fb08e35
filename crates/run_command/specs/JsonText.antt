-- What `dispatch run --json` prints at the end of a day, an object a line.
use Rattle.std.specs.Prelude.{ℕ, List, ◌∷◌, [], ◌++◌, codes}
use Rattle.std.specs.List.{flat_map}
use Rattle.desk_news.specs.declared.paid.PaidSweep.{PaidSweep}
use Rattle.desk_executions.specs.declared.execution.Execution.{Execution}
use Rattle.desk_json.specs.Executions.{execution_json}
use Rattle.desk_json.specs.Sweeps.{sweep_json}
use Rattle.json_lines.specs.Lines.{doubt_json, totals_json}
use Rattle.desk_day.specs.declared.day.DeskDay.{DeskDay}
use Rattle.desk_day.specs.declared.day.VenueDoubt.{VenueDoubt}
use Rattle.session_worker.specs.declared.day_report.DayReport.{DayReport}
use Rattle.run_command.specs.Text.{totals_of}

-- the line of a sweep
abbrev pub sweep_line : PaidSweep → List ℕ
sweep_line sweep = sweep_json sweep ++ 10 ∷ []

-- the line of a venue's legs that stay in doubt
abbrev pub doubt_line : VenueDoubt → List ℕ
doubt_line doubt = doubt_json doubt.venue doubt.legs.items ++ 10 ∷ []

-- the line of what the book didn't take
abbrev pub unbooked_line : Execution → List ℕ
unbooked_line execution = execution_json execution ++ 10 ∷ []

-- a line for each sweep, one for each execution that the book didn't take, and one for each venue with legs that stay
-- in doubt
abbrev pub booked_json : DeskDay → List ℕ
booked_json day =
    flat_map sweep_line day.sweeps.items ++ flat_map unbooked_line day.unbooked.items
    ++ flat_map doubt_line day.doubts.items

-- the shares of a day, and that the audit found nothing wrong
abbrev pub totals_lines : DayReport → List ℕ
totals_lines report = totals_json (totals_of report) ++ codes "\n{\"audit\":\"ok\"}\n"

abbrev pub json_text : DeskDay → List ℕ
json_text day = booked_json day ++ totals_lines day.report
