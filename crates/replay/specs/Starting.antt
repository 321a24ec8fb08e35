-- The start from what was kept, venue by venue.
use Rattle.std.specs.Prelude.{◌≡◌, ◌<◌, ◌≤◌, ℕ, suc, ◌-◌, Bool, true, false, ◌&&◌, List, [], ◌∷◌, ◌++◌, length, take, drop, Option, Some, None, unwrap_or, slice_get, option_map}
use Rattle.leg.specs.declared.sweep.Routed.{Routed}
use Rattle.sweep_release.specs.Released.{released}
use Rattle.sweep_release.specs.Desk.{DeskParts, DeskVenue}
use Rattle.schedule.specs.World.{World, VenueParts, venue_in}
use Rattle.world_restart.specs.Journal.{Standing, Journal, standing_at, each_from}
use Rattle.world_restart.specs.Start.{desk_venue_started, venue_started, with_book}
use Rattle.replay.specs.declared.deed.Deed.{Deed}
use Rattle.replay.specs.declared.deed.Deed.TheVariants.{Started}
use Rattle.replay.specs.Redoing.{JournalParts, standing_kept_by}
use Rattle.replay.specs.Ruling.{keeps}

-- how many of the last lines of a venue's journal are lost
abbrev pub lost_at : List ℕ → ℕ → ℕ
lost_at lines v = unwrap_or (slice_get lines v) 0

-- whether the rules are kept at a venue of whose journal this is the last kept line, and these sweeps are kept
abbrev pub keeps_by : World → ℕ → List (List Routed) → ℕ → Option Standing → Bool
keeps_by w v sweeps reached None = false
keeps_by w v sweeps reached (Some standing) = keeps w v reached sweeps standing

abbrev pub keeps_line : World → ℕ → List (List Routed) → ℕ → Journal → Bool
keeps_line w v sweeps lost journal = keeps_by w v sweeps journal.reached (slice_get (drop lost journal.lines) 0)

-- and at each venue
abbrev pub all_keep : World → List (List Routed) → List ℕ → ℕ → List Journal → Bool
all_keep w sweeps lines v [] = true
all_keep w sweeps lines v (journal ∷ journals) =
    keeps_line w v sweeps (lost_at lines v) journal && all_keep w sweeps lines (suc v) journals

-- the deeds that are kept of a journal
abbrev pub deeds_kept : ℕ → JournalParts → List Deed
deeds_kept lost journal = take (length journal.deeds - lost) journal.deeds

abbrev pub line_kept : ℕ → World → ℕ → ℕ → JournalParts → Standing
line_kept max_number w v lost journal = standing_kept_by max_number w v journal (deeds_kept lost journal)

-- the dispatcher stands at each venue as the deeds of its journal tell
abbrev pub StandsAt : ℕ → World → ℕ → JournalParts → VenueParts → Type 0
StandsAt max_number w v journal venue = standing_at w v venue ≡ standing_kept_by max_number w v journal journal.deeds

abbrev pub StandsBy : ℕ → World → List JournalParts → Type 0
StandsBy max_number w journals = (v : ℕ) (venue : VenueParts) (journal : JournalParts) → venue_in w v ≡ Some venue
    → slice_get journals v ≡ Some journal → StandsAt max_number w v journal venue

-- no more deeds are lost than there are
abbrev pub AreLost : List ℕ → List JournalParts → Type 0
AreLost lines journals = (v : ℕ) (journal : JournalParts) → slice_get journals v ≡ Some journal
    → lost_at lines v ≤ length journal.deeds

-- the journal of a venue goes on behind what was kept, with the start
abbrev pub started_parts : List (List Routed) → List ℕ → ℕ → JournalParts → JournalParts
started_parts sweeps lines v journal =
    record journal { deeds = deeds_kept (lost_at lines v) journal ++ Started (length (released v sweeps)) ∷ [] }

-- how the dispatcher stood at a venue by the last kept line
abbrev pub kept_standing : ℕ → World → List ℕ → List JournalParts → ℕ → Option Standing
kept_standing max_number w lines journals v =
    option_map (line_kept max_number w v (lost_at lines v)) (slice_get journals v)

-- the world that is started
abbrev pub desk_by : ℕ → World → List ℕ → List JournalParts → DeskParts → DeskParts
desk_by max_number w lines journals desk = record desk {
  venues = each_from
      (λ v now. desk_venue_started desk.sweeps (kept_standing max_number w lines journals v) v now) 0 desk.venues;
}

abbrev pub world_by : ℕ → World → List ℕ → List JournalParts → DeskParts → World
world_by max_number w lines journals desk = with_book
    (record w {
      desk = desk_by max_number w lines journals desk;
      venues = each_from (λ v now. venue_started (kept_standing max_number w lines journals v) now) 0 w.venues;
    })
