-- The legs of a sweep as they are told: each by a book, a desk, and the counts that its venue's worker told.
use Rattle.std.specs.Prelude.{◌≡◌, ◌⊎◌, ℕ, zero, suc, ◌<◌, ◌≤◌, ◌==◌, ◌&&◌, ◌||◌, Bool, true, false, nat_lt, List, [], ◌++◌, find, option_map, option_to_list, Option, Some, None, if◌then◌else◌}
use Rattle.std.specs.List.Sorted.{IsPartitionedBy, IsPartitionPoint}
use Rattle.leg.specs.LegId.{LegIdParts}
use Rattle.leg.specs.declared.leg.Leg.{Leg}
use Rattle.leg.specs.declared.placed_leg.PlacedLeg.{PlacedLeg}
use Rattle.share_ledger.specs.declared.booked_leg.BookedLeg.{BookedLeg}
use Rattle.share_ledger.specs.Book.{BookParts, leg_in}
use Rattle.share_ledger.specs.Entries.{is_same_leg}
use Rattle.exec_collector.specs.Beside.{IsBeside}
use Rattle.exec_collector.specs.Resolved as collector
use Rattle.exec_collector.specs.Unbooked.{CountedParts, IsListOf}
use Rattle.exec_collector.specs.declared.beside.Beside.{Beside}
use Rattle.day_sweeps.specs.Paid.{leg_paid_beside}
use Rattle.desk_news.specs.declared.paid.Paid.{Paid}
use Rattle.sweep_release.specs.Desk.{DeskParts}
use Rattle.sweep_release.specs.History.{KeptDesk}
use Rattle.release_lock.specs.Locked.{Replays}
use Rattle.release_lock.specs.Queues.{released_to}
use Rattle.desk_floor.specs.declared.legs.LegStanding.{LegStanding}
use Rattle.desk_floor.specs.Standing.{leg_state_of}

-- whether a leg is of an earlier sweep than another, or in front of it in the same one
abbrev pub is_before : LegIdParts → LegIdParts → Bool
is_before a b = nat_lt a.sweep b.sweep || (a.sweep == b.sweep && nat_lt a.place b.place)

-- a place parts legs of earlier numbers from the others, if they stand in front of them
abbrev pub IsHalved : LegIdParts → List Leg → ℕ → Type 0
IsHalved id legs place =
    IsPartitionedBy (λ leg. is_before leg.id id) legs
    → IsPartitionPoint (λ leg. is_before leg.id id ≡ true) (λ leg. is_before leg.id id ≡ false) legs place

-- a leg of this ordinal, if it is there and has the number
abbrev pub one_of : LegIdParts → ℕ → Option Leg → Option PlacedLeg
one_of id ordinal None = None
one_of id ordinal (Some leg) =
    if is_same_leg leg.id id then Some (record { ordinal = ordinal; leg = leg }) else None

-- the leg of a number among those released to a venue, with its ordinal there, if it is one of them
abbrev pub released_under : DeskParts → ℕ → LegIdParts → Option PlacedLeg
released_under desk venue id = find (λ placed. is_same_leg placed.leg.id id) (released_to desk venue)

-- a leg of a book, with what was paid for it as that is kept beside the book
abbrev pub paid_leg_in : BookParts → Beside → LegIdParts → Option (BookedLeg × Paid)
paid_leg_in book beside id =
    option_map (λ booked. (booked, leg_paid_beside beside id booked.parts.filled)) (leg_in book id)

-- a leg, or that there is none, is told as a book that replays has it, with what was paid for it
pub record IsPaidLeg (id : LegIdParts) (leg : Option (BookedLeg × Paid)) : Type 0 where
  pub day : CountedParts
  pub beside : Beside
  pub replays : collector.Replays day.book
  pub list : IsListOf day.book day.unbooked
  pub kept : IsBeside day beside
  pub is : leg ≡ paid_leg_in day.book beside id

-- a leg that a book has stands so, with this paid for it: a desk that replays has released it to its venue, with its
-- terms, and its state follows from its parts, its ordinal there, and two counts that the venue's worker told, of which
-- nothing is known
pub record Stands (id : LegIdParts) (booked : BookedLeg) (paid : Paid) (leg : LegStanding) : Type 0 where
  pub desk : KeptDesk
  pub replays : Replays desk
  pub placed : PlacedLeg
  pub released : released_under desk.desk booked.venue id ≡ Some placed
  pub taken : ℕ
  pub settled : ℕ
  pub is : leg ≡ record {
    id = id;
    venue = booked.venue;
    terms = placed.leg.terms;
    parts = booked.parts;
    paid = paid;
    state = leg_state_of booked.parts placed.ordinal taken settled;
  }

-- a desk that replays has released no such leg to its venue
pub record IsUnreleased (id : LegIdParts) (booked : BookedLeg) : Type 0 where
  pub desk : KeptDesk
  pub replays : Replays desk
  pub unreleased : released_under desk.desk booked.venue id ≡ None

-- a leg that a book has is told as it stands, or not where its venue is none of so many or has no such leg
abbrev pub IsStanding : ℕ → LegIdParts → BookedLeg → Paid → Option LegStanding → Type 0
IsStanding venues id booked paid (Some leg) = Stands id booked paid leg
IsStanding venues id booked paid None = (venues ≤ booked.venue) ⊎ IsUnreleased id booked

-- what is told of a place that a sweep has in a book that replays, with what was paid there
pub record IsPlace (venues : ℕ) (id : LegIdParts) (told : Option LegStanding) : Type 0 where
  pub booked : BookedLeg
  pub paid : Paid
  pub there : IsPaidLeg id (Some (booked, paid))
  pub standing : IsStanding venues id booked paid told

-- what is told of the places of a sweep up to this one, in order
abbrev pub ArePlaces : ℕ → ℕ → ℕ → List LegStanding → Type 0
ArePlaces venues sweep zero legs = legs ≡ []
ArePlaces venues sweep (suc place) legs =
    (before : List LegStanding) × (told : Option LegStanding) × ArePlaces venues sweep place before
    × IsPlace venues (record { sweep = sweep; place = suc place }) told × (legs ≡ before ++ option_to_list told)

-- the legs of a sweep, by their places up to the first that a book hasn't got, or to the last of 32; of a number that
-- no sweep can have none is told
pub record AreLegs (venues sweep : ℕ) (legs : List LegStanding) : Type 0 where
  pub places : ℕ
  pub few : places ≤ 32
  pub none : 999999999999 < sweep → places ≡ 0
  pub told : ArePlaces venues sweep places legs
  pub end : places < 32 → 1 ≤ sweep → sweep ≤ 999999999999
      → IsPaidLeg (record { sweep = sweep; place = suc places }) None
