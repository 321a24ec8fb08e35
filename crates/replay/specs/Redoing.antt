-- The lines of a venue's journal, made again from the deeds that it keeps.
use Rattle.std.specs.Prelude.{ℕ, ◌+◌, Bool, false, List, [], ◌∷◌}
use Rattle.leg.specs.Numbered.{numbered}
use Rattle.session_core.specs.Session.{new_session}
use Rattle.session_core.specs.Calling.{send_leg, broken}
use Rattle.schedule.specs.World.{World, VenueParts, Frame, session_config, of_venue}
use Rattle.schedule.specs.Happening.{at_venue, with_venue}
use Rattle.world_restart.specs.Journal.{Standing, Journal, each_from}
use Rattle.world_restart.specs.Deeds.{again, sent_deed, frame_deed}
use Rattle.world_restart.specs.Deeds.Deed.{Dropped, Connected, Quieted, Silenced, Closed, Abandoned, Broke}
use Rattle.replay.specs.declared.deed.Deed.{Deed}
use Rattle.replay.specs.declared.deed.Deed.TheVariants as deed
use Rattle.replay.specs.declared.mark.Mark.{Mark}

-- how the dispatcher stands at a venue that is opened
abbrev pub new_standing : ℕ → Bool → Standing
new_standing max_number next = record {
  left = 0;
  is_shut = false;
  session = new_session (session_config max_number next);
  to_exchange = [];
  given = [];
}

-- a deed is done again, from how the dispatcher stood by the line before. These are the frames that the exchange ever
-- wrote
abbrev pub redo : List Frame → Standing → Deed → Standing
redo frames s deed.Nothing = s
redo frames s (deed.Took placed) = again s (sent_deed placed (send_leg s.session placed.ordinal placed.leg))
redo frames s deed.Dropped = again s Dropped
redo frames s deed.Connected = again s Connected
redo frames s deed.Quieted = again s Quieted
redo frames s deed.Silenced = again s Silenced
redo frames s deed.Closed = again s Closed
redo frames s deed.Abandoned = again s Abandoned
redo frames s (deed.Heard frame) = again s (frame_deed s.session (numbered frame frames))
redo frames s deed.Broke = again s Broke
redo frames s (deed.Started left) = record s { left = left; session = broken s.session }

-- deeds are done again, in order
abbrev pub redo_all : List Frame → Standing → List Deed → Standing
redo_all frames s [] = s
redo_all frames s (deed ∷ deeds) = redo_all frames (redo frames s deed) deeds

-- the lines that deeds make behind these, the last one first
abbrev pub lines_behind : List Frame → Standing → List Standing → List Deed → List Standing
lines_behind frames s lines [] = s ∷ lines
lines_behind frames s lines (deed ∷ deeds) = lines_behind frames (redo frames s deed) (s ∷ lines) deeds

-- what is kept of a venue's journal: whether its session's Logons say which number it expects next (789), its deeds,
-- and the number of the latest frame that came to the exchange
pub record JournalParts : Type 0 where
  pub next : Bool
  pub deeds : List Deed
  pub reached : ℕ

-- the journal of a venue
abbrev pub journal_by : ℕ → List Frame → JournalParts → Journal
journal_by max_number frames journal = record {
  lines = lines_behind frames (new_standing max_number journal.next) [] journal.deeds;
  reached = journal.reached;
}

-- the frames that the exchange of a venue ever wrote
abbrev pub frames_from : World → ℕ → List Frame
frames_from w v = of_venue w v [] (λ venue. venue.from_exchange)

-- how the dispatcher stands at a venue whose desk is so far
abbrev pub standing_by : Mark → VenueParts → Standing
standing_by mark venue = record {
  left = mark.started + mark.since;
  is_shut = mark.is_shut;
  session = venue.session;
  to_exchange = venue.to_exchange;
  given = venue.given;
}

-- a venue where the dispatcher stands so
abbrev pub stood : VenueParts → Standing → VenueParts
stood venue s = record venue { session = s.session; to_exchange = s.to_exchange; given = s.given }

-- the journals of a world's venues
abbrev pub journals_by : ℕ → World → List JournalParts → List Journal
journals_by max_number w journals = each_from (λ v journal. journal_by max_number (frames_from w v) journal) 0 journals

-- the venue of a world where the dispatcher stands so
abbrev pub stood_at : World → ℕ → Standing → World
stood_at w v s = at_venue w v (λ venue. with_venue w v (stood venue s))

-- how the dispatcher stands at a venue by the deeds kept of its journal
abbrev pub standing_kept_by : ℕ → World → ℕ → JournalParts → List Deed → Standing
standing_kept_by max_number w v journal deeds =
    redo_all (frames_from w v) (new_standing max_number journal.next) deeds
