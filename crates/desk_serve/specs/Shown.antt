-- What is shown of a day over HTTP. Each look at the book or the desk finds one that replays from its own history. That
-- two looks find the same one, or which it is, isn't said.
use Rattle.std.specs.Prelude.{◌≡◌, ℕ, suc, ◌+◌, ◌<◌, ◌≤◌, min, List, [], ◌∷◌, length, filter_map, slice_get, Option, Some, None, option_map}
use Rattle.leg.specs.Split.{SplitParts}
use Rattle.leg.specs.declared.totals.Totals.{Totals}
use Rattle.share_ledger.specs.Book.{BookParts}
use Rattle.share_ledger.specs.Entries.{opened}
use Rattle.exec_collector.specs.Resolved.{Replays}
use Rattle.desk_news.specs.declared.paid.PaidSweep.{PaidSweep}
use Rattle.desk_floor.specs.declared.legs.LegStanding.{LegStanding}
use Rattle.desk_floor.specs.Legs.{AreLegs}
use Rattle.desk_floor.specs.Status.{IsStatus}
use Rattle.day_sweeps.specs.Sweeps.{AddsUp, IsDay}
use Rattle.day_sweeps.specs.Paid.{IsPaid}
use Rattle.day_executions.specs.Counts.{AreCounts}
use Rattle.desk_json.specs.declared.standing.LegRow.{LegRow}
use Rattle.desk_json.specs.declared.standing.SweepLegs.{SweepLegs}
use Rattle.desk_json.specs.declared.standing.SweepsPage.{SweepsPage}
use Rattle.desk_json.specs.declared.standing.VenueRow.{VenueRow}
use Rattle.desk_http.specs.declared.day_sums.DaySums.{DaySums}
use Rattle.desk_serve.specs.Sums.{AreParts}

-- these sweeps are told as books that replay have them, with what was paid for each, the first of them having this
-- number and each other the next one, and the parts of each add up
abbrev pub AreBooked : ℕ → List PaidSweep → Type 0
AreBooked number [] = Unit {0}
AreBooked number (sweep ∷ sweeps) = IsPaid number (Some sweep) × AddsUp sweep.parts × AreBooked (suc number) sweeps

-- the sweeps behind a number, at most so many; where they are fewer, none has the next number, unless that would have
-- more than 64 bits
pub record AreBehind (after most : ℕ) (sweeps : List PaidSweep) : Type 0 where
  pub few : length sweeps ≤ most
  pub booked : AreBooked (suc after) sweeps
  pub last : after + length sweeps < min (after + most) 18446744073709551615
      → IsPaid (suc (after + length sweeps)) None

-- a page of sweeps, with the day's shares; whether the day is closing isn't said
pub record IsPage (after most : ℕ) (page : SweepsPage) : Type 0 where
  pub sweeps : AreBehind after most page.sweeps.items
  pub day : IsDay page.day

-- what became of a leg's shares
abbrev pub totals_of : SplitParts → Totals
totals_of parts =
    record {
      filled = parts.filled;
      busted = parts.busted;
      cancelled = parts.cancelled;
      withdrawn = parts.withdrawn;
      still_open = parts.still_open;
    }

-- a leg with the name of its venue, if there is one
abbrev pub row_of : List (List ℕ) → LegStanding → Option LegRow
row_of names leg =
    option_map (λ name. record {
      id = leg.id;
      venue = name;
      terms = leg.terms;
      totals = totals_of leg.parts;
      paid = leg.paid;
      state = leg.state;
    }) (slice_get names leg.venue)

-- these rows are shown under the sweep's number; where there are none, the sweep isn't
abbrev pub AreShown : ℕ → List LegRow → Option SweepLegs → Type 0
AreShown number rows (Some shown) = (shown.sweep ≡ number) × (shown.legs.items ≡ rows) × (1 ≤ length rows)
AreShown number rows None = rows ≡ []

-- what is shown of a sweep: its legs at venues of a name, by their places
pub record IsSweep (names : List (List ℕ)) (venues number : ℕ) (shown : Option SweepLegs) : Type 0 where
  pub legs : List LegStanding
  pub stand : AreLegs venues number legs
  pub rows : AreShown number (filter_map (row_of names) legs) shown

-- the venue at a place is shown so: of the legs that its worker took, no more were withdrawn than are settled, and what
-- the book didn't take of its notes is counted by the reason
pub record IsVenue (names : List (List ℕ)) (place : ℕ) (row : VenueRow) : Type 0 where
  pub status : IsStatus names place row.status
  pub withdrawn : row.withdrawn ≤ row.settled
  pub unbooked : AreCounts place row.unbooked

-- so are these, the first of them at this place and each at the next one
abbrev pub AreVenues : List (List ℕ) → ℕ → List VenueRow → Type 0
AreVenues names place [] = Unit {0}
AreVenues names place (row ∷ rows) = IsVenue names place row × AreVenues names (suc place) rows

-- all venues are shown that have a name, by their places
pub record AreAll (names : List (List ℕ)) (venues : ℕ) (rows : List VenueRow) : Type 0 where
  pub all : length rows ≡ min (length names) venues
  pub each : AreVenues names 0 rows

-- so many sweeps were opened in a book that replays, and what became of their shares are sums of what was counted of
-- sweeps; of the shares placed nothing is said
pub record IsSums (sums : DaySums) : Type 0 where
  pub book : BookParts
  pub replays : Replays book
  pub sweeps : sums.sweeps ≡ length (opened book.entries)
  pub parts : AreParts sums.parts
