-- What a dispatcher has on the disk: the sweeps that were placed, in the order of their numbers, and a journal for each
-- venue, each of whose lines tells how the dispatcher stood at the venue.
use Rattle.std.specs.Prelude.{ℕ, suc, Bool, false, ◌==◌, List, [], ◌∷◌, length, max, nat_le, if◌then◌else◌}
use Rattle.std.specs.Option.{option_map_or}
use Rattle.dialect.specs.declared.note.Note.{Note}
use Rattle.session_core.specs.Session.{SessionParts}
use Rattle.sweep_release.specs.Desk.{venue_at, gate_of, is_shut}
use Rattle.schedule.specs.declared.event.Event.{Event}
use Rattle.schedule.specs.declared.event.Event.TheVariants as event
use Rattle.schedule.specs.World.{World, VenueParts, Frame, venue_in}

-- how the dispatcher stands at a venue: how many of its legs left the desk, and whether its gate is shut for good; its
-- session, every message that this wrote, and the notes handed to the book
pub record Standing : Type 0 where
  pub left : ℕ
  pub is_shut : Bool
  pub session : SessionParts
  pub to_exchange : List Frame
  pub given : List Note

abbrev pub standing_at : World → ℕ → VenueParts → Standing
standing_at w v venue = record {
  left = (venue_at w.desk v).left;
  is_shut = is_shut (gate_of w.desk v);
  session = venue.session;
  to_exchange = venue.to_exchange;
  given = venue.given;
}

-- a venue's journal: its lines, the last one first. And the number of the latest frame that came to the exchange
pub record Journal : Type 0 where
  pub lines : List Standing
  pub reached : ℕ

-- a journal is begun when the venue is opened
abbrev pub new_journal : World → ℕ → VenueParts → Journal
new_journal w v venue = record { lines = standing_at w v venue ∷ []; reached = 0 }

-- one more line
abbrev pub with_line : World → ℕ → Journal → VenueParts → Journal
with_line w v journal venue = record journal { lines = standing_at w v venue ∷ journal.lines }

abbrev pub add_line : World → ℕ → Journal → Journal
add_line w v journal = option_map_or (with_line w v journal) (venue_in w v) journal

-- whether an event is one of the dispatcher at this venue: each writes a line, also one that changes nothing
abbrev pub writes_at : Event → ℕ → Bool
writes_at (event.Drop at) v = at == v
writes_at (event.Take at) v = at == v
writes_at (event.Connect at) v = at == v
writes_at (event.ToDispatcher at frame) v = at == v
writes_at (event.Break at) v = at == v
writes_at (event.Quiet at) v = at == v
writes_at (event.Silent at) v = at == v
writes_at (event.Close at) v = at == v
writes_at (event.Abandon at) v = at == v
writes_at _ v = false

-- a frame comes to the exchange, if it was written
abbrev pub reached_by : ℕ → ℕ → VenueParts → ℕ
reached_by frame reached venue = if nat_le frame (length venue.to_exchange) then max reached frame else reached

abbrev pub reached_at : World → Event → ℕ → ℕ → ℕ
reached_at w (event.ToExchange at frame) v reached =
    if at == v then option_map_or (reached_by frame reached) (venue_in w v) reached else reached
reached_at w _ v reached = reached

-- a journal after an event, from the world before it to the one after it
abbrev pub journal_after : World → World → Event → ℕ → Journal → Journal
journal_after w after event v journal =
    let heard = record journal { reached = reached_at w event v journal.reached } in
    if writes_at event v then add_line after v heard else heard

-- something made of each of a list, by its place; the first one has this place
abbrev pub each_from : {A B : Type 0} → (ℕ → A → B) → ℕ → List A → List B
each_from make place [] = []
each_from make place (x ∷ xs) = make place x ∷ each_from make (suc place) xs
