-- What was paid for the sweeps and legs of a day.
use Rattle.std.specs.Prelude.{◌≡◌, ℕ, List, map, min, Option, option_map}
use Rattle.leg.specs.LegId.{LegIdParts}
use Rattle.leg_worth.specs.Kept.{worth_at}
use Rattle.leg_worth.specs.Worth.{capped, sweep_worth, worth_below}
use Rattle.share_ledger.specs.Book.{BookParts}
use Rattle.exec_collector.specs.Beside.{IsBeside}
use Rattle.exec_collector.specs.Day.{disputed, disputed_at, disputed_below}
use Rattle.exec_collector.specs.Resolved.{Replays}
use Rattle.exec_collector.specs.Unbooked.{CountedParts, IsListOf}
use Rattle.exec_collector.specs.declared.beside.Beside.{Beside}
use Rattle.exec_collector.specs.declared.unbooked.Unbooked.{Unbooked}
use Rattle.desk_news.specs.declared.paid.Paid.{Paid}
use Rattle.desk_news.specs.declared.paid.PaidSweep.{PaidSweep}
use Rattle.desk_news.specs.declared.sweep_parts.SweepParts.{SweepParts}
use Rattle.day_sweeps.specs.Sweeps.{sweep_in}

-- the parts of sweeps
abbrev pub parts_of : List PaidSweep → List SweepParts
parts_of sweeps = map (λ sweep. sweep.parts) sweeps

-- a sweep with what was paid for it by a book's history: the sum over its legs' trades that no bust names; and what is
-- disputed of it by the list of what the book didn't take
abbrev pub paid_in : BookParts → List Unbooked → SweepParts → PaidSweep
paid_in book unbooked parts = record {
  parts = parts;
  paid = record {
    worth = capped (sweep_worth book parts.sweep);
    filled = parts.totals.filled;
    disputed = disputed_below (λ id. min (disputed id unbooked) 18446744073709551615) parts.sweep 32;
  };
}

-- a sweep with what was paid for it and what is disputed of it, as it is kept
abbrev pub paid_beside : Beside → SweepParts → PaidSweep
paid_beside beside parts = record {
  parts = parts;
  paid = record {
    worth = capped (worth_below (worth_at beside.worths) parts.sweep 32);
    filled = parts.totals.filled;
    disputed = disputed_below (disputed_at beside.disputed) parts.sweep 32;
  };
}

-- what was paid for so many filled shares of a leg, and what is disputed of it, as it is kept
abbrev pub leg_paid_beside : Beside → LegIdParts → ℕ → Paid
leg_paid_beside beside id filled = record {
  worth = worth_at beside.worths id;
  filled = filled;
  disputed = disputed_at beside.disputed id;
}

-- the sweep of a number is told as a book has it, with what is kept of it
abbrev pub ShowsPaid : ℕ → BookParts → Beside → Option PaidSweep → Type 0
ShowsPaid number book beside sweep = sweep ≡ option_map (paid_beside beside) (sweep_in book number)

-- the sweep of a number, or that none has it, is told as a book that replays has it, with what is kept beside that: of
-- each leg the sum over its trades that no bust names, and the shares of those that weren't taken
pub record IsPaid (number : ℕ) (sweep : Option PaidSweep) : Type 0 where
  pub day : CountedParts
  pub beside : Beside
  pub replays : Replays day.book
  pub list : IsListOf day.book day.unbooked
  pub kept : IsBeside day beside
  pub is : ShowsPaid number day.book beside sweep
