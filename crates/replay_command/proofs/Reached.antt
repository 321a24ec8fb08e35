-- The day to which a script leads is one of the model.
use Rattle.std.proofs.Common.{◌≡◌, ℕ, suc, true, false, Bool, List, [], ◌∷◌, ◌++◌, Option, Some, None, Result, Ok, Err, refl, sym, ap, subst, ◌∙◌}
use Rattle.std.specs.Prelude.{length, map, if◌then◌else◌}
use Rattle.schedule.specs.Script.{ScriptHead}
use Rattle.schedule.specs.World.{opening}
use Rattle.script.specs.declared.day_event.DayEvent.{DayEvent}
use Rattle.script.specs.declared.day_event.DayEvent.TheVariants.{Goes, Crash}
use Rattle.script.specs.DayScript.{BegunScript, begun_of, day_said_by}
use Rattle.world_restart.specs.Start.{Day, Loss, day_started, may_lose}
use Rattle.world_restart.specs.Day.{day_happen, day_happens, opening_day, run_day}
use Rattle.world_restart.specs.Day.DayEvent.{Goes as Happens, Crash as Kill}
use Rattle.world_restart.specs.Day as model
use Rattle.replay_command.specs.Days.{Ending, IsDayOf, LeadsToDays, end_behind, end_of, event_end, first_day, line_end, lines_end, said_end}
use Rattle.replay_command.specs.Days.Ending.{Over, BadAt, ImpossibleAt}

-- where an ending has a day, it is one of the model
abbrev EndsSo : ScriptHead → Ending → Type 0
EndsSo head (Over day) = IsDayOf head day
EndsSo head ended = Unit {0}

happen_append : (events more : List model.DayEvent) (day : Day)
    → day_happen (events ++ more) day ≡ day_happen more (day_happen events day)
happen_append [] more day = refl
happen_append (event ∷ events) more day = happen_append events more (day_happens day event)

one_more : (head : ScriptHead) (day : Day) (event : model.DayEvent) → IsDayOf head day → IsDayOf head (day_happens day event)
one_more head day event is =
    let next = map (λ venue. venue.next) head.venues in
    record {
      events = is.events ++ event ∷ [];
      is = ap (λ (d : Day). day_happens d event) is.is
          ∙ sym (happen_append is.events (event ∷ []) (opening_day (opening next head.max_number)));
    }

crash_ends : (head : ScriptHead) (number : ℕ) (day : Day) (loss : Loss) (may : Bool) → may_lose day loss ≡ may
    → IsDayOf head day → EndsSo head (if may then Over (day_started day loss) else ImpossibleAt number)
crash_ends head number day loss false may is = tt
crash_ends head number day loss true may is =
    let started : day_happens day (Kill loss) ≡ day_started day loss = rw may refl in
    subst (IsDayOf head) started (one_more head day (Kill loss) is)

event_ends : (head : ScriptHead) (number : ℕ) (day : Day) (event : DayEvent) → IsDayOf head day
    → EndsSo head (event_end number day event)
event_ends head number day (Goes event) is = one_more head day (Happens event) is
event_ends head number day (Crash loss) is = crash_ends head number day loss (may_lose day loss) refl is

said_ends : (head : ScriptHead) (number : ℕ) (day : Day) (said : Option (Option DayEvent)) → IsDayOf head day
    → EndsSo head (said_end number day said)
said_ends head number day None is = tt
said_ends head number day (Some None) is = is
said_ends head number day (Some (Some event)) is = event_ends head number day event is

line_ends : (head : ScriptHead) (venues number : ℕ) (line : List ℕ) (ending : Ending) → EndsSo head ending
    → EndsSo head (line_end venues number line ending)
line_ends head venues number line (Over day) is = said_ends head number day (day_said_by venues line) is
line_ends head venues number line (BadAt at) is = tt
line_ends head venues number line (ImpossibleAt at) is = tt

lines_ends : (head : ScriptHead) (venues number : ℕ) (lines : List (List ℕ)) (ending : Ending) → EndsSo head ending
    → EndsSo head (lines_end venues number lines ending)
lines_ends head venues number [] ending is = is
lines_ends head venues number (line ∷ lines) ending is =
    lines_ends head venues (suc number) lines (line_end venues number line ending)
    (line_ends head venues number line ending is)

pub leads_to_days : LeadsToDays
leads_to_days text begun day begins ends =
    let first : IsDayOf begun.head (first_day begun.head) = record { events = []; is = refl } in
    let behind = lines_ends begun.head (length begun.head.venues) begun.number begun.lines (Over (first_day begun.head)) first in
    let here : end_behind (Ok begun) ≡ Over day = ap end_behind (sym begins) ∙ ends in
    subst (EndsSo begun.head) here behind
