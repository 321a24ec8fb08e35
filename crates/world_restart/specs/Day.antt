-- A day on which the dispatcher may be killed at any moment, and started again from its journals.
use Rattle.std.specs.Prelude.{ℕ, Bool, List, [], ◌∷◌, if◌then◌else◌}
use Rattle.schedule.specs.declared.event.Event.{Event}
use Rattle.schedule.specs.World.{World, opening}
use Rattle.schedule.specs.Happening.{happens}
use Rattle.world_restart.specs.Journal.{each_from, new_journal, journal_after}
use Rattle.world_restart.specs.Start.{Day, Loss, may_lose, day_started}

-- an event of the world; or the dispatcher is killed, this isn't on the disk, and it is started again
pub data DayEvent : Type 0 where
  Goes : (event : Event) → DayEvent
  Crash : (loss : Loss) → DayEvent

abbrev pub opening_day : World → Day
opening_day w = record { world = w; journals = each_from (new_journal w) 0 w.venues }

abbrev pub after_event : Day → Event → Day
after_event day event =
    let after = happens day.world event in
    record { world = after; journals = each_from (journal_after day.world after event) 0 day.journals }

-- a crash that breaks a rule of the journal isn't possible, and changes nothing
abbrev pub after_crash : Day → Loss → Day
after_crash day loss = if may_lose day loss then day_started day loss else day

abbrev pub day_happens : Day → DayEvent → Day
day_happens day (Goes event) = after_event day event
day_happens day (Crash loss) = after_crash day loss

abbrev pub day_happen : List DayEvent → Day → Day
day_happen [] day = day
day_happen (event ∷ events) day = day_happen events (day_happens day event)

-- the day of a schedule: of so many venues, of which each chose to be told the next expected number (789) or not, where
-- no message of a session has the number max_number
abbrev pub run_day : List Bool → ℕ → List DayEvent → Day
run_day next max_number events = day_happen events (opening_day (opening next max_number))
