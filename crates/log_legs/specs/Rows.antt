-- Examples: reports on an order to buy 100 shares of IBM, and why the desk's book doesn't take them.
use Rattle.std.specs.Prelude.{ℕ, Bool, true, List, [], ◌∷◌, codes, Option, Some, None}
use Rattle.dialect.specs.declared.report.ReportKind.TheVariants.{Trade, Bust}
use Rattle.leg.specs.declared.side.Side.TheVariants.{Buy}
use Rattle.log_rules.specs.Checker.{new_checker}
use Rattle.log_rules.specs.KeptReport.{ReportParts}
use Rattle.log_rules.specs.Order.{OrderParts}
use Rattle.log_legs.specs.KeptLeg.{LegParts}
use Rattle.log_legs.specs.Legs.{WatchParts, new_watch}
use Rattle.log_legs.specs.Parts.{ShareParts}
use Rattle.log_legs.specs.declared.report_note.ReportNote.{ReportNote}

-- the order, which was asked for again in doubt or not
abbrev pub order : Bool → OrderParts
order is_withdrawn = record {
  id = codes "S1L1";
  number = 3;
  symbol = Some (codes "IBM");
  side = Some Buy;
  price = Some 102500;
  cum = 0;
  leaves = 100;
  is_withdrawn = is_withdrawn;
}

abbrev pub leg : ShareParts → LegParts
leg parts = record {
  symbol = codes "IBM";
  side = Some Buy;
  price = Some 102500;
  sent = 1;
  is_reported = true;
  parts = parts;
}

-- what is known behind the order and these reports, which left so many shares filled and open
abbrev pub known : Bool → ℕ → ℕ → List ReportParts → WatchParts
known is_withdrawn filled still_open reports =
    record (new_watch (Some (record {
      legs = leg (record { filled = filled; busted = 0; cancelled = 0; still_open = still_open }) ∷ [];
      begun = 0;
    }))) { checker = record new_checker { ledger = record { orders = order is_withdrawn ∷ []; reports = reports } } }

-- a report on the order that came under a number, of a trade of so many shares
abbrev pub kept : ℕ → List ℕ → ℕ → ReportParts
kept number exec shares = record { number = number; order = Some 0; exec = exec; shares = shares }

abbrev pub trade : List ℕ → ℕ → ReportNote
trade exec shares =
    record { id = codes "S1L1"; exec = exec; kind = Trade (record { shares = shares; px = codes "10.25" }) }

abbrev pub bust : List ℕ → List ℕ → ReportNote
bust exec undone = record { id = codes "S1L1"; exec = exec; kind = Bust undone }
