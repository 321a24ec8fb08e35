-- The sweeps of a day: what the book tells of them.
use Rattle.std.specs.Prelude.{◌≡◌, ℕ, suc, ◌+◌, ◌-◌, List, [], ◌∷◌, Option, option_map}
use Rattle.leg.specs.Numbered.{numbered}
use Rattle.leg.specs.declared.sweep.Routed.{Routed}
use Rattle.leg.specs.declared.totals.Totals.{Totals}
use Rattle.share_ledger.specs.Book.{BookParts, booked_from, totals_of}
use Rattle.share_ledger.specs.Entries.{opened, sweep_shares}
use Rattle.exec_collector.specs.Resolved.{Replays, resolved}
use Rattle.desk_news.specs.declared.day_totals.DayTotals.{DayTotals}
use Rattle.desk_news.specs.declared.sweep_parts.SweepParts.{SweepParts}

-- the shares of all five parts
abbrev pub sum_of : Totals → ℕ
sum_of t = t.filled + t.busted + t.cancelled + t.withdrawn + t.still_open

-- the parts of a sweep's shares add up to them
abbrev pub AddsUp : SweepParts → Type 0
AddsUp sweep = sweep.shares ≡ sum_of sweep.totals

-- the sweep of these legs under its number, as a book has it
abbrev pub sweep_of : BookParts → ℕ → List Routed → SweepParts
sweep_of book number legs =
    record {
      sweep = number;
      shares = sweep_shares legs;
      totals = totals_of (booked_from book number 1 legs);
    }

-- the sweep of a number as a book has it, if it was opened
abbrev pub sweep_in : BookParts → ℕ → Option SweepParts
sweep_in book number = option_map (sweep_of book number) (numbered number (opened book.entries))

-- the sweep of a number, or that none has it, is told as a book that replays has it
pub record IsBooked (number : ℕ) (sweep : Option SweepParts) : Type 0 where
  pub book : BookParts
  pub replays : Replays book
  pub is : sweep ≡ sweep_in book number

-- these sweeps as a book has them, the first of them having this number
abbrev pub sweeps_from : BookParts → ℕ → List (List Routed) → List SweepParts
sweeps_from book number [] = []
sweeps_from book number (legs ∷ sweeps) = sweep_of book number legs ∷ sweeps_from book (suc number) sweeps

-- all sweeps of a book
abbrev pub sweeps_in : BookParts → List SweepParts
sweeps_in book = sweeps_from book 1 (opened book.entries)

-- the shares of a day: a book that replays has resolved so many of those placed, and the rest is open
pub record IsDay (day : DayTotals) : Type 0 where
  pub book : BookParts
  pub replays : Replays book
  pub resolved : day.resolved ≡ resolved book
  pub still_open : day.still_open ≡ day.placed - day.resolved
