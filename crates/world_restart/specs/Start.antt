-- What is lost in a crash, when that may be, and how the dispatcher starts again from what was kept.
use Rattle.std.specs.Prelude.{ℕ, suc, ◌-◌, Bool, true, false, ◌&&◌, ◌||◌, not, List, [], ◌∷◌, ◌++◌, length, map, take, drop, Option, Some, None, unwrap_or, option_and_then, slice_get, nat_le, if◌then◌else◌}
use Rattle.leg.specs.declared.leg.Leg.{Leg}
use Rattle.leg.specs.declared.leg_state.LegState.{LegState}
use Rattle.leg.specs.declared.leg_state.LegState.TheVariants.{Queued}
use Rattle.leg.specs.declared.sweep.Routed.{Routed}
use Rattle.session_core.specs.Session.{leg_state}
use Rattle.session_core.specs.Calling.{broken}
use Rattle.share_ledger.specs.declared.book_entry.BookEntry.{BookEntry}
use Rattle.share_ledger.specs.declared.book_entry.BookEntry.TheVariants.{Opened, Withdrawn, Moved}
use Rattle.share_ledger.specs.Book.{new_book, replay}
use Rattle.sweep_release.specs.declared.gate.Gate.{Gate}
use Rattle.sweep_release.specs.declared.gate.Gate.TheVariants.{Down, Shut}
use Rattle.sweep_release.specs.Released.{released}
use Rattle.sweep_release.specs.Desk.{DeskParts, DeskVenue}
use Rattle.schedule.specs.World.{World, VenueParts, released_to, state_of, state_left, is_withdrawn_leg, withdrawn_ids}
use Rattle.world_restart.specs.Journal.{Standing, Journal, add_line, each_from}

-- a world, and the journal of each of its venues
pub record Day : Type 0 where
  pub world : World
  pub journals : List Journal

-- what isn't on the disk: so many of the last sweeps, and of each venue's journal so many of the last lines
pub record Loss : Type 0 where
  pub sweeps : ℕ
  pub lines : List ℕ

-- what is
abbrev pub sweeps_kept : World → Loss → List (List Routed)
sweeps_kept w loss = take (length w.desk.sweeps - loss.sweeps) w.desk.sweeps

abbrev pub lines_kept : Loss → ℕ → Journal → List Standing
lines_kept loss v journal = drop (unwrap_or (slice_get loss.lines v) 0) journal.lines

abbrev pub last_kept : Loss → ℕ → Journal → Option Standing
last_kept loss v journal = slice_get (lines_kept loss v journal) 0

abbrev pub standing_kept : Day → Loss → ℕ → Option Standing
standing_kept day loss v = option_and_then (last_kept loss v) (slice_get day.journals v)

-- the state of the leg of an ordinal, from how the dispatcher stood
abbrev pub state_in : Standing → ℕ → Option LegState
state_in standing ordinal =
    if nat_le ordinal standing.left then Some (state_left (leg_state standing.session ordinal)) else Some Queued

-- of these legs, of which the first has this ordinal, each that is withdrawn in the one way is so in the other
abbrev pub are_withdrawn : (ℕ → Option LegState) → (ℕ → Option LegState) → ℕ → List Leg → Bool
are_withdrawn now kept ordinal [] = true
are_withdrawn now kept ordinal (leg ∷ legs) =
    (not (is_withdrawn_leg (now ordinal)) || is_withdrawn_leg (kept ordinal))
    && are_withdrawn now kept (suc ordinal) legs

-- The rules of the journal. Before a frame goes to the exchange its line is on the disk; before a leg leaves the desk
-- its sweep is; and before the book is asked to withdraw a leg, the line that says so is
abbrev pub keeps_rules : World → Loss → ℕ → Journal → Option Standing → Bool
keeps_rules w loss v journal None = false
keeps_rules w loss v journal (Some standing) =
    nat_le journal.reached (length standing.to_exchange)
    && nat_le standing.left (length (released v (sweeps_kept w loss)))
    && are_withdrawn (state_of w v) (state_in standing) 1 (released_to w v)

abbrev pub all_keep_rules : World → Loss → ℕ → List Journal → Bool
all_keep_rules w loss v [] = true
all_keep_rules w loss v (journal ∷ journals) =
    keeps_rules w loss v journal (last_kept loss v journal) && all_keep_rules w loss (suc v) journals

-- whether this may be lost; no more can be than there is
abbrev pub may_lose : Day → Loss → Bool
may_lose day loss = nat_le loss.sweeps (length day.world.desk.sweeps) && all_keep_rules day.world loss 0 day.journals

-- The start. The sweeps are those kept, each gate is down, but for one that was shut, and every leg has left the desk:
-- one that hadn't is withdrawn, since a leg that is sent late is no sweep
abbrev pub gate_started : Bool → Gate
gate_started true = Shut
gate_started false = Down

abbrev pub desk_venue_started : List (List Routed) → Option Standing → ℕ → DeskVenue → DeskVenue
desk_venue_started sweeps None v now = now
desk_venue_started sweeps (Some standing) v now =
    record { gate = gate_started standing.is_shut; left = length (released v sweeps) }

abbrev pub desk_started : Day → Loss → DeskParts
desk_started day loss =
    let sweeps = sweeps_kept day.world loss in
    record {
      sweeps = sweeps;
      venues = each_from (λ v now. desk_venue_started sweeps (standing_kept day loss v) v now) 0
          day.world.desk.venues;
    }

-- the session is the kept one, and its connection is gone; the exchange goes on as it does
abbrev pub venue_started : Option Standing → VenueParts → VenueParts
venue_started None now = now
venue_started (Some standing) now =
    record now {
      session = broken standing.session;
      to_exchange = standing.to_exchange;
      given = standing.given;
    }

-- the book is made again: the sweeps are opened, and then of each venue the notes are booked and the withdrawn legs
-- withdrawn
abbrev pub venue_entries : World → ℕ → List VenueParts → List BookEntry
venue_entries w v [] = []
venue_entries w v (venue ∷ venues) =
    map (Moved v) venue.given ++ (map Withdrawn (withdrawn_ids w v) ++ venue_entries w (suc v) venues)

abbrev pub book_entries : World → List BookEntry
book_entries w = map (λ legs. Opened (record { legs = legs })) w.desk.sweeps ++ venue_entries w 0 w.venues

abbrev pub with_book : World → World
with_book w = record w { book = replay (new_book (length w.venues)) (book_entries w) }

abbrev pub world_started : Day → Loss → World
world_started day loss =
    with_book
    (record {
      desk = desk_started day loss;
      book = new_book (length day.world.venues);
      venues = each_from (λ v now. venue_started (standing_kept day loss v) now) 0 day.world.venues;
    })

-- the journals go on behind what was kept, with a line of the start
abbrev pub journal_started : World → Loss → ℕ → Journal → Journal
journal_started w loss v journal = add_line w v (record journal { lines = lines_kept loss v journal })

abbrev pub day_started : Day → Loss → Day
day_started day loss =
    let w = world_started day loss in
    record { world = w; journals = each_from (journal_started w loss) 0 day.journals }
