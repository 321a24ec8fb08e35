-- What the desk keeps beside its history, so that no call walks it.
use Rattle.std.specs.Prelude.{◌≡◌, ℕ, ◌+◌, ◌-◌, ◌*◌, ◌<◌, ◌≤◌, List, [], ◌∷◌, ◌++◌, length, map, sum_by, get_or, vec_len, vec_capacity}
use Rattle.std.specs.List.{All}
use Rattle.leg.specs.declared.leg.Leg.{Leg}
use Rattle.leg.specs.declared.sweep.Routed.{Routed}
use Rattle.share_ledger.specs.Entries.{sweep_shares}
use Rattle.sweep_release.specs.declared.desk.Desk.TheInside.{Inside}
use Rattle.sweep_release.specs.declared.desk_entry.DeskEntry.{DeskEntry}
use Rattle.sweep_release.specs.declared.desk_entry.DeskEntry.TheVariants.{Released}
use Rattle.sweep_release.specs.declared.venue.Venue.{Venue}
use Rattle.sweep_release.specs.Gates.{gate_due}
use Rattle.sweep_release.specs.Released.{legs_to, released}
use Rattle.sweep_release.specs.Desk.{DeskVenue, count_to}
use Rattle.sweep_release.specs.History.{KeptDesk}

-- the sweeps that were released, in the order of their numbers
abbrev pub released_sweeps : List DeskEntry → List (List Routed)
released_sweeps [] = []
released_sweeps (Released sweep ∷ entries) = sweep.legs ∷ released_sweeps entries
released_sweeps (_ ∷ entries) = released_sweeps entries

-- no sweep has more than 32 legs
abbrev pub AreShort : List (List Routed) → Type 0
AreShort sweeps = All (λ (legs : List Routed). length legs ≤ 32) sweeps

-- a venue as a caller sees it
abbrev pub venue_seen : Venue → DeskVenue
venue_seen venue = record { gate = venue.gate; left = venue.left }

-- the desk as a caller sees it
abbrev pub desk_seen : Inside → KeptDesk
desk_seen desk =
    record {
      desk = record { sweeps = released_sweeps desk.history.items; venues = map venue_seen desk.venues.items };
      history = desk.history.items;
      room = desk.room;
    }

-- how many entries the calls at a venue that take no memory may write: one for each placed leg, and those of its gate
abbrev pub entries_due : Venue → ℕ
entries_due venue = length venue.released.items - venue.left + gate_due venue.gate

-- a venue has the legs released to it, of which some left and at most 256 are placed, and room for so many more
pub record IsKeptVenue (sweeps : List (List Routed)) (room number : ℕ) (venue : Venue) : Type 0 where
  pub legs : venue.released.items ≡ released number sweeps
  pub left : venue.left ≤ length venue.released.items
  pub few : length venue.released.items ≤ venue.left + 256
  pub counted : length venue.released.items ≤ 32 * length sweeps
  pub spare : vec_len venue.released + room ≤ vec_capacity venue.released

-- the counts are those of the history, and the history has room for what is due. No leg was released to a venue that
-- the desk hasn't got
pub record IsKept (desk : Inside) : Type 0 where
  pub venues : (k : ℕ) (other : Venue) →
      k < length desk.venues.items →
      IsKeptVenue (released_sweeps desk.history.items) desk.room k (get_or desk.venues.items k other)
  pub count : desk.sweeps ≡ length (released_sweeps desk.history.items)
  pub shares : desk.shares ≡ sum_by sweep_shares (released_sweeps desk.history.items)
  pub few : desk.sweeps ≤ 999999999999
  pub bounded : desk.shares ≤ 1000000000000000000
  pub due : desk.due ≡ sum_by entries_due desk.venues.items
  pub spare : vec_len desk.history + desk.due + desk.room ≤ vec_capacity desk.history
  pub few_venues : length desk.venues.items ≤ 16
  pub elsewhere : (k : ℕ) → length desk.venues.items ≤ k → released k (released_sweeps desk.history.items) ≡ []
  pub short : AreShort (released_sweeps desk.history.items)

-- a venue is as it was, but for more room
pub record IsSame (before after : Venue) : Type 0 where
  pub gate : after.gate ≡ before.gate
  pub left : after.left ≡ before.left
  pub legs : after.released.items ≡ before.released.items
  pub spare : vec_capacity before.released ≤ vec_capacity after.released

-- and so is each of these
pub record AreSame (before after : List Venue) : Type 0 where
  pub many : length after ≡ length before
  pub each : (k : ℕ) (other : Venue) → k < length before → IsSame (get_or before k other) (get_or after k other)
  pub seen : map venue_seen after ≡ map venue_seen before
  pub due : sum_by entries_due after ≡ sum_by entries_due before

-- each venue has room for so many more legs
abbrev pub HaveSpare : ℕ → List Venue → Type 0
HaveSpare room venues = (k : ℕ) (other : Venue) → k < length venues
    → vec_len (get_or venues k other).released + room ≤ vec_capacity (get_or venues k other).released

-- each venue has room for the legs that join it, and no more of its legs left than were released
pub record HaveRoom (legs : List Routed) (venues : List Venue) : Type 0 where
  pub fits : (k : ℕ) (other : Venue) →
      k < length venues →
      vec_len (get_or venues k other).released + count_to k legs ≤ vec_capacity (get_or venues k other).released
  pub left : (k : ℕ) (other : Venue) →
      k < length venues →
      (get_or venues k other).left ≤ length (get_or venues k other).released.items

-- a venue after these legs joined it
pub record IsJoined (legs : List Leg) (before after : Venue) : Type 0 where
  pub joined : after.released.items ≡ before.released.items ++ legs
  pub spare : vec_capacity after.released ≡ vec_capacity before.released
  pub left : after.left ≡ before.left

-- the venues after the legs of a sweep joined them, each in the order of the places
pub record IsEnqueued (number : ℕ) (legs : List Routed) (before after : List Venue) : Type 0 where
  pub many : length after ≡ length before
  pub joined : (k : ℕ) (other : Venue) →
      k < length before →
      IsJoined (legs_to k number 1 legs) (get_or before k other) (get_or after k other)
  pub seen : map venue_seen after ≡ map venue_seen before
  pub due : sum_by entries_due after ≡ sum_by entries_due before + length legs
