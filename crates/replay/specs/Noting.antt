-- What a venue's journal keeps of an event there.
use Rattle.std.specs.Prelude.{◌≡◌, ◌⊎◌, ℕ, List, [], ◌∷◌, ◌++◌, length, max, nat_le, slice_get, Option, Some, None, if◌then◌else◌}
use Rattle.leg.specs.declared.placed_leg.PlacedLeg.{PlacedLeg}
use Rattle.sweep_release.specs.Desk.{drop_next}
use Rattle.sweep_release.specs.Desk as desk
use Rattle.schedule.specs.declared.event.Event.{Event}
use Rattle.schedule.specs.declared.event.Event.TheVariants as event
use Rattle.schedule.specs.World.{World, VenueParts, venue_in}
use Rattle.schedule.specs.Growing.{named}
use Rattle.schedule.specs.Happening.{may_connect, is_session_up}
use Rattle.replay.specs.declared.deed.Deed.{Deed}
use Rattle.replay.specs.declared.deed.Deed.TheVariants as deed
use Rattle.replay.specs.declared.noted.Noted.{Noted}
use Rattle.replay.specs.declared.noted.Noted.TheVariants.{Nothing, Line, Reached}
use Rattle.replay.specs.Redoing.{JournalParts}

-- the next leg was dropped, if there is one
abbrev pub drop_kept : Option PlacedLeg → Deed
drop_kept None = deed.Nothing
drop_kept (Some placed) = deed.Dropped

-- the next leg was handed to the session, if there is one
abbrev pub take_kept : Option PlacedLeg → Deed
take_kept None = deed.Nothing
take_kept (Some placed) = deed.Took placed

-- what is kept of an event at a venue, from the world before it
abbrev pub noted : World → Event → VenueParts → Noted
noted w (event.Drop v) venue = Line (drop_kept (drop_next w.desk v).0)
noted w (event.Take v) venue =
    Line (take_kept (if is_session_up venue.session.phase then (desk.take w.desk v).0 else None))
noted w (event.Connect v) venue = Line (if may_connect w.desk v then deed.Connected else deed.Nothing)
noted w (event.ToDispatcher v frame) venue =
    Line (if nat_le frame (length venue.from_exchange) then deed.Heard frame else deed.Nothing)
noted w (event.ToExchange v frame) venue =
    if nat_le frame (length venue.to_exchange) then Reached frame else Nothing
noted w (event.Break v) venue = Line deed.Broke
noted w (event.Quiet v) venue = Line deed.Quieted
noted w (event.Silent v) venue = Line deed.Silenced
noted w (event.Close v) venue = Line deed.Closed
noted w (event.Abandon v) venue = Line deed.Abandoned
noted w _ venue = Nothing

-- a journal that keeps it
abbrev pub with_noted : Noted → JournalParts → JournalParts
with_noted Nothing journal = journal
with_noted (Line deed) journal = record journal { deeds = journal.deeds ++ deed ∷ [] }
with_noted (Reached frame) journal = record journal { reached = max journal.reached frame }

-- what became of the kept journals: what is kept of the event at its venue, and nothing elsewhere
pub record AreNoted (w : World) (e : Event) (before after : List JournalParts) : Type 0 where
  pub count : length after ≡ length before
  pub each : (v : ℕ) (venue : VenueParts) (old new : JournalParts) → venue_in w v ≡ Some venue
      → slice_get before v ≡ Some old → slice_get after v ≡ Some new
      → ((named e ≡ Some v) × (new ≡ with_noted (noted w e venue) old)) ⊎ ((named e ≡ Some v → ⊥) × (new ≡ old))
