-- Where the run of a script's lines ends.
use Rattle.std.specs.Prelude.{◌≡◌, ℕ, suc, Bool, true, false, List, [], ◌∷◌, length, map, Option, Some, None, Result, Ok, Err, if◌then◌else◌}
use Rattle.schedule.specs.Script.{ScriptHead}
use Rattle.schedule.specs.World.{opening}
use Rattle.script.specs.declared.day_event.DayEvent.{DayEvent}
use Rattle.script.specs.declared.day_event.DayEvent.TheVariants.{Goes, Crash}
use Rattle.script.specs.DayScript.{BegunScript, begun_of, day_said_by}
use Rattle.world_restart.specs.Start.{Day, may_lose, day_started}
use Rattle.world_restart.specs.Day.{after_event, opening_day, run_day}
use Rattle.world_restart.specs.Day as model

-- behind the last line, with the day to which the lines lead; at the first bad line; or at a crash that can't be
pub data Ending : Type 0 where
  Over : (day : Day) → Ending
  BadAt : (line : ℕ) → Ending
  ImpossibleAt : (line : ℕ) → Ending

-- a crash that loses what can't be lost ends it, any other event leads on
abbrev pub event_end : ℕ → Day → DayEvent → Ending
event_end number day (Goes event) = Over (after_event day event)
event_end number day (Crash loss) = if may_lose day loss then Over (day_started day loss) else ImpossibleAt number

abbrev pub said_end : ℕ → Day → Option (Option DayEvent) → Ending
said_end number day None = BadAt number
said_end number day (Some None) = Over day
said_end number day (Some (Some event)) = event_end number day event

-- from where the lines before it lead
abbrev pub line_end : ℕ → ℕ → List ℕ → Ending → Ending
line_end venues number line (Over day) = said_end number day (day_said_by venues line)
line_end venues number line ended = ended

abbrev pub lines_end : ℕ → ℕ → List (List ℕ) → Ending → Ending
lines_end venues number [] ending = ending
lines_end venues number (line ∷ lines) ending = lines_end venues (suc number) lines (line_end venues number line ending)

-- the day before the first event, and the end of a script
abbrev pub first_day : ScriptHead → Day
first_day head = opening_day (opening (map (λ venue. venue.next) head.venues) head.max_number)

abbrev pub end_behind : Result BegunScript ℕ → Ending
end_behind (Err number) = BadAt number
end_behind (Ok begun) =
    lines_end (length begun.head.venues) begun.number begun.lines (Over (first_day begun.head))

abbrev pub end_of : List ℕ → Ending
end_of text = end_behind (begun_of text)

-- a day of the model, with this first line: the sweep theorem over restarts holds of its world
pub record IsDayOf (head : ScriptHead) (day : Day) : Type 0 where
  pub events : List model.DayEvent
  pub is : day ≡ run_day (map (λ venue. venue.next) head.venues) head.max_number events

-- where the run of a script comes to its end, it leads to such a day
abbrev pub LeadsToDays : Type 0
LeadsToDays =
    (text : List ℕ) (begun : BegunScript) (day : Day) → begun_of text ≡ Ok begun → end_of text ≡ Over day
    → IsDayOf begun.head day
