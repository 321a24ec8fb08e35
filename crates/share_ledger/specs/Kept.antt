-- What the book keeps beside its history, so that no call walks it.
use Rattle.std.specs.Prelude.{◌≡◌, ◌≢◌, ℕ, ◌+◌, ◌<◌, ◌≤◌, ◌==◌, false, List, [], ◌∷◌, length, Option, Some, None, Result, Ok, Err, option_and_then, option_map, sum_by, is_some, get_or, nat_lt, vec_len, vec_capacity, if◌then◌else◌}
use Rattle.std.specs.Global.{Vec}
use Rattle.leg.specs.LegId.{LegIdParts}
use Rattle.leg.specs.Numbered.{numbered}
use Rattle.leg.specs.Split.{IsSplit, all_open, leg_shares}
use Rattle.leg.specs.declared.sweep.Routed.{Routed}
use Rattle.dialect.specs.declared.note.Note.TheVariants as note
use Rattle.dialect.specs.declared.report.Report.{Report}
use Rattle.share_ledger.specs.declared.applied.Applied.{Applied}
use Rattle.share_ledger.specs.declared.applied.Applied.TheVariants as applied
use Rattle.share_ledger.specs.declared.book_entry.BookEntry.{BookEntry}
use Rattle.share_ledger.specs.declared.book_entry.BookEntry.TheVariants.{Moved}
use Rattle.share_ledger.specs.declared.booked_leg.BookedLeg.{BookedLeg}
use Rattle.share_ledger.specs.declared.ledger.Ledger.{Ledger}
use Rattle.share_ledger.specs.declared.leg_change.LegChange.{LegChange}
use Rattle.share_ledger.specs.declared.reports.Reports.{Reports}
use Rattle.share_ledger.specs.Entries.{opened, order_of, is_same_leg, is_booked}
use Rattle.share_ledger.specs.Shares.{Move}
use Rattle.share_ledger.specs.Reports.{report_at, shares_on}
use Rattle.share_ledger.specs.Steps.{traded_under}
pub use Rattle.share_ledger.specs.Book.{booked_leg}
use Rattle.share_ledger.specs.Book.{BookParts, new_book, written, moves_on, leg_parts, resolved_shares, opened_shares, can_bust, answer_to, again, replay}

-- the book as a caller sees it
abbrev pub ledger_seen : Ledger → BookParts
ledger_seen ledger = record { venues = length ledger.resolved.items; entries = ledger.history.items }

-- a kept leg, by its number
abbrev pub kept_leg : LegIdParts → List (Vec BookedLeg) → Option BookedLeg
kept_leg id sweeps = option_and_then (λ legs. numbered id.place legs.items) (numbered id.sweep sweeps)

-- a leg whose sweep is opened now
abbrev pub opened_leg : Routed → BookedLeg
opened_leg routed = record { venue = routed.venue; parts = all_open routed.terms.shares }

-- a sum over the kept legs of all sweeps
abbrev pub sum_over : (BookedLeg → ℕ) → List (Vec BookedLeg) → ℕ
sum_over f sweeps = sum_by (λ legs. sum_by f legs.items) sweeps

-- how many withdrawals of a leg may still come: one, while all its shares are open
abbrev pub legs_due : BookedLeg → ℕ
legs_due leg = if leg.parts.still_open == leg_shares leg.parts then 1 else 0

-- the resolved shares of a leg, if it is of this venue
abbrev pub resolved_at : ℕ → BookedLeg → ℕ
resolved_at venue leg = if leg.venue == venue then resolved_shares leg else 0

-- the shares that a bust of the trade of this id undoes, if it can be busted
abbrev pub standing : List ℕ → List Move → Option ℕ
standing exec moves = if can_bust exec moves then Some (traded_under exec moves) else None

-- an entry about one leg alone, which a call writes: what is kept of the leg before it and after it
pub record ChangesLeg (id : LegIdParts) (was now : BookedLeg) (entry : BookEntry) (book : BookParts) : Type 0 where
  pub writes : again book entry ≡ written entry book
  pub opens_none : opened (entry ∷ []) ≡ []
  pub before : option_map (booked_leg book id) (order_of id book.entries) ≡ Some was
  pub after : option_map (booked_leg (written entry book) id) (order_of id book.entries) ≡ Some now
  pub others : (other : LegIdParts) (shares : ℕ) → is_same_leg id other ≡ false
      → leg_parts other shares (written entry book) ≡ leg_parts other shares book
  pub less : now.parts.still_open ≤ was.parts.still_open

-- a report on a leg of its venue, under an id that is new there
pub record IsNewOn (leg : BookedLeg) (venue : ℕ) (report : Report) (book : BookParts) : Type 0 where
  pub kept : option_map (booked_leg book report.id) (order_of report.id book.entries) ≡ Some leg
  pub range : IsSplit leg.parts
  pub known : venue < book.venues
  pub of_venue : leg.venue ≡ venue
  pub fresh : is_booked venue report.exec book.entries ≡ false

-- a report that moves its leg, which isn't withdrawn
pub record MovesLeg (change : LegChange) (venue : ℕ) (report : Report) (book : BookParts) : Type 0 where
  pub on : IsNewOn change.was venue report book
  pub there : nat_lt 0 change.was.parts.withdrawn ≡ false
  pub answer : answer_to book venue (note.Report report) ≡ applied.Moved
  pub changes : ChangesLeg report.id change.was change.now (Moved venue (note.Report report)) book

-- a report that moves nothing, and its answer
abbrev pub MovesNothing : BookParts → ℕ → Report → Applied → Type 0
MovesNothing book venue report answer =
    (answer_to book venue (note.Report report) ≡ answer) × (answer ≢ applied.Moved)

-- the leg that a new report is on, or the report's answer
abbrev pub IsLegOf : BookParts → ℕ → Report → Result BookedLeg Applied → Type 0
IsLegOf book venue report (Ok leg) = IsNewOn leg venue report book
IsLegOf book venue report (Err answer) = MovesNothing book venue report answer

-- what a report makes of its leg, or the report's answer
abbrev pub IsChange : BookParts → ℕ → Report → Result LegChange Applied → Type 0
IsChange book venue report (Ok change) = MovesLeg change venue report book
IsChange book venue report (Err answer) = MovesNothing book venue report answer

-- the legs are those of the history, each sum is that of its legs, and the history has room for each withdrawal
pub record IsKept (ledger : Ledger) : Type 0 where
  pub replays : replay (new_book (length ledger.resolved.items)) ledger.history.items ≡ ledger_seen ledger
  pub sweeps : length ledger.sweeps.items ≡ length (opened ledger.history.items)
  pub legs : (id : LegIdParts)
      → kept_leg id ledger.sweeps.items
      ≡ option_map (booked_leg (ledger_seen ledger) id) (order_of id ledger.history.items)
  pub short : (number : ℕ) (legs : Vec BookedLeg) → numbered number ledger.sweeps.items ≡ Some legs
      → length legs.items ≤ 32
  pub known : (id : LegIdParts) (leg : BookedLeg) → kept_leg id ledger.sweeps.items ≡ Some leg
      → leg.venue < length ledger.resolved.items
  pub resolved : (venue : ℕ) → venue < length ledger.resolved.items
      → get_or ledger.resolved.items venue 0 ≡ sum_over (resolved_at venue) ledger.sweeps.items
  pub shares : ledger.shares ≡ opened_shares (ledger_seen ledger)
  pub all : sum_over (λ leg. leg_shares leg.parts) ledger.sweeps.items ≡ ledger.shares
  pub few : ledger.shares ≤ 1000000000000000000
  pub due : ledger.due ≡ sum_over legs_due ledger.sweeps.items
  pub room : vec_len ledger.history + ledger.due ≤ vec_capacity ledger.history

-- each report that was booked is kept for its venue, and with it its trade, if that can be busted
pub record AreTold (reports : List Reports) (book : BookParts) : Type 0 where
  pub count : length reports ≡ book.venues
  pub has : (venue : ℕ) (other : Reports) (exec : List ℕ) → venue < length reports
      → is_some (report_at (get_or reports venue other) exec) ≡ is_booked venue exec book.entries
  pub standing_on : (venue : ℕ) (other : Reports) (exec : List ℕ) (id : LegIdParts) → venue < length reports
      → ((routed : Routed) → order_of id book.entries ≡ Some routed → routed.venue ≡ venue)
      → shares_on id (report_at (get_or reports venue other) exec) ≡ standing exec (moves_on id book)

-- the ledger, and the reports of each venue beside it
pub record IsKeptBook (ledger : Ledger) (reports : List Reports) : Type 0 where
  pub sums : IsKept ledger
  pub told : AreTold reports (ledger_seen ledger)
