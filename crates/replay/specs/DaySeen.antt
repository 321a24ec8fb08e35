-- A day as it is seen, and what is kept of it.
use Rattle.std.specs.Prelude.{◌≡◌, ◌≤◌, ℕ, Bool, List, [], length, Some, slice_get}
use Rattle.std.specs.Option.{option_map_or}
use Rattle.std.specs.List.{AllByRecursion}
use Rattle.schedule.specs.World.{World}
use Rattle.schedule.specs.SweepTheorem.{IsOpening}
use Rattle.world_restart.specs.Journal.{Journal}
use Rattle.world_restart.specs.Start.{Day}
use Rattle.world_restart.specs.Day.{DayEvent, run_day}
use Rattle.replay.specs.declared.deed.Deed.{Deed}
use Rattle.replay.specs.declared.deed.Deed.TheVariants.{Heard}
use Rattle.replay.specs.Redoing.{JournalParts, frames_from, journals_by}

-- the world, and the lines that the deeds of each venue's journal make
abbrev pub day_seen : ℕ → World → List JournalParts → Day
day_seen max_number w journals = record { world = w; journals = journals_by max_number w journals }

-- what is kept of a journal that is begun
abbrev pub new_parts : Bool → JournalParts
new_parts next = record { next = next; deeds = []; reached = 0 }

-- how many lines the journal of a venue has
abbrev pub lines_of : Day → ℕ → ℕ
lines_of day v = option_map_or (λ (journal : Journal). length journal.lines) (slice_get day.journals v) 0

-- a frame that came to the session is one of so many
abbrev pub IsWithin : ℕ → Deed → Type 0
IsWithin count (Heard frame) = frame ≤ count
IsWithin count _ = Unit {0}

-- the day is one of the definition, whose events led to it; and each frame that came to a session was written
pub record IsDay (max_number : ℕ) (w : World) (journals : List JournalParts) : Type 0 where
  pub next : List Bool
  pub events : List DayEvent
  pub opening : IsOpening next max_number
  pub reached : day_seen max_number w journals ≡ run_day next max_number events
  pub count : length journals ≡ length w.venues
  pub some : 1 ≤ length w.venues
  pub heard : (v : ℕ) (journal : JournalParts) → slice_get journals v ≡ Some journal
      → AllByRecursion (IsWithin (length (frames_from w v))) journal.deeds
