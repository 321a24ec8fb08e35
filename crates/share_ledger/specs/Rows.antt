-- Examples: a book of one venue, its orders and the reports on them.
use Rattle.std.specs.Prelude.{ℕ, List, [], ◌∷◌, replicate, codes}
use Rattle.leg.specs.LegId.{LegIdParts}
use Rattle.leg.specs.declared.side.Side.TheVariants.{Buy}
use Rattle.leg.specs.declared.sweep.Routed.{Routed}
use Rattle.dialect.specs.declared.note.Note.{Note}
use Rattle.dialect.specs.declared.note.Note.TheVariants as note
use Rattle.dialect.specs.declared.report.ReportKind.{ReportKind}
use Rattle.dialect.specs.declared.report.ReportKind.TheVariants.{Trade, Bust}
use Rattle.share_ledger.specs.declared.applied.Applied.{Applied}
use Rattle.share_ledger.specs.Book.{BookParts, new_book, open_sweep, withdraw, answer_to, apply}

-- an order to buy so many shares of IBM at 10 dollars
abbrev pub order : ℕ → ℕ → Routed
order venue shares =
    record {
      venue = venue;
      terms = record {
        symbol = record { root = codes "IBM"; suffix = [] };
        side = Buy;
        shares = shares;
        price = 100000;
      };
    }

-- the leg of the first sweep that has this place
abbrev pub leg : ℕ → LegIdParts
leg place = record { sweep = 1; place = place }

-- a report on that leg
abbrev pub report : ℕ → List ℕ → ReportKind → Note
report place exec kind = note.Report (record { id = leg place; exec = exec; kind = kind })

abbrev pub trade : ℕ → List ℕ → ℕ → Note
trade place exec shares = report place exec (Trade (record { shares = shares; px = codes "10" }))

abbrev pub bust : ℕ → List ℕ → List ℕ → Note
bust place exec cancelled_id = report place exec (Bust cancelled_id)

-- notes of venue 0, one after the other: what was done with each, and the book after them
abbrev pub applied_all : BookParts → List Note → List Applied
applied_all book [] = []
applied_all book (note ∷ notes) = answer_to book 0 note ∷ applied_all (apply book 0 note).1 notes

abbrev pub after_all : BookParts → List Note → BookParts
after_all book [] = book
after_all book (note ∷ notes) = after_all (apply book 0 note).1 notes

-- a book of one venue whose first sweep has legs of 100 shares and of 50, the second of them withdrawn
abbrev pub two_legs : BookParts
two_legs = (withdraw (open_sweep (new_book 1) 1 (order 0 100 ∷ order 0 50 ∷ [])).1 (leg 2)).1

-- trades on both legs, one of them reported twice and one of too many shares
abbrev pub trades_on_two_legs : List Note
trades_on_two_legs =
    trade 1 (codes "E1") 60
    ∷ trade 1 (codes "E1") 60
    ∷ trade 1 (codes "E2") 41
    ∷ trade 1 (codes "E3") 40
    ∷ trade 2 (codes "E4") 1
    ∷ []

-- a book of one venue whose first sweep has a leg of so many shares
abbrev pub opened_with : ℕ → BookParts
opened_with shares = (open_sweep (new_book 1) 1 (order 0 shares ∷ [])).1

-- one of 100 shares
abbrev pub one_leg : BookParts
one_leg = opened_with 100

-- the greatest sweep
abbrev pub greatest : List Routed
greatest = replicate 32 (order 0 1000000)

-- a trade, its bust, the bust again under a new id, the bust of a trade that was never made, and a trade of more shares
-- than are open
abbrev pub a_bust : List Note
a_bust =
    trade 1 (codes "E1") 60
    ∷ bust 1 (codes "E2") (codes "E1")
    ∷ bust 1 (codes "E3") (codes "E1")
    ∷ bust 1 (codes "E4") (codes "E9")
    ∷ trade 1 (codes "E5") 41
    ∷ []
