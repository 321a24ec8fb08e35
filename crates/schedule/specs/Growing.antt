-- What an event may change, and what only grows.
use Rattle.std.specs.Prelude.{◌≡◌, ℕ, length, Option, Some, None, slice_get}
use Rattle.leg.specs.Growing.{Grew}
use Rattle.session_core.specs.Onward.{IsOnward}
use Rattle.exchange_core.specs.Exchange.{ExchangeParts, accepted_by}
use Rattle.schedule.specs.declared.event.Event.{Event}
use Rattle.schedule.specs.declared.event.Event.TheVariants as event
use Rattle.schedule.specs.World.{World, VenueParts, venue_in, reports_in}

-- the venue that an event names, if it names one
abbrev pub named : Event → Option ℕ
named (event.Release sweep) = None
named (event.GateUp v) = Some v
named (event.GateDown v) = Some v
named (event.Drop v) = Some v
named (event.Take v) = Some v
named (event.Connect v) = Some v
named (event.ToExchange v frame) = Some v
named (event.ToDispatcher v frame) = Some v
named (event.Break v) = Some v
named (event.ExchangeBreak v) = Some v
named (event.Act v act) = Some v
named (event.Quiet v) = Some v
named (event.Silent v) = Some v
named (event.Close v) = Some v
named (event.Abandon v) = Some v

-- an exchange later: the legs that it accepted, and what its own numbers were used for, with the reports that it made
pub record HasGrown (before after : ExchangeParts) : Type 0 where
  pub accepted : Grew (accepted_by before) (accepted_by after)
  pub own : Grew before.own after.own
  pub made : Grew (reports_in before.own) (reports_in after.own)

-- a venue later: its session is onward, and what was written in each direction and handed to the book stands
pub record IsVenueLater (before after : VenueParts) : Type 0 where
  pub session : IsOnward before.session after.session
  pub exchange : HasGrown before.exchange after.exchange
  pub to_exchange : Grew before.to_exchange after.to_exchange
  pub from_exchange : Grew before.from_exchange after.from_exchange
  pub given : Grew before.given after.given

-- a world later: the same venues, each of them later, and the sweeps that were released stand
pub record IsWorldLater (before after : World) : Type 0 where
  pub sweeps : Grew before.desk.sweeps after.desk.sweeps
  pub venues : length after.venues ≡ length before.venues
  pub venue : (v : ℕ) (old : VenueParts) → venue_in before v ≡ Some old
      → (new : VenueParts) × (venue_in after v ≡ Some new) × IsVenueLater old new

-- nothing is changed of a venue, neither at the desk nor in the world
pub record IsUntouched (u : ℕ) (before after : World) : Type 0 where
  pub venue : venue_in after u ≡ venue_in before u
  pub desk : slice_get after.desk.venues u ≡ slice_get before.desk.venues u
