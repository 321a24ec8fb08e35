-- Examples: trades on one leg, and a bust.
use Rattle.std.specs.Prelude.{ℕ, List, [], ◌∷◌, codes}
use Rattle.dialect.specs.declared.note.Note.{Note}
use Rattle.dialect.specs.declared.note.Note.TheVariants as note
use Rattle.dialect.specs.declared.report.ReportKind.{ReportKind}
use Rattle.dialect.specs.declared.report.ReportKind.TheVariants.{Trade, Bust}

-- a report on the first leg of the first sweep
abbrev pub report : List ℕ → ReportKind → Note
report exec kind = note.Report (record { id = record { sweep = 1; place = 1 }; exec = exec; kind = kind })

abbrev pub trade : List ℕ → ℕ → List ℕ → Note
trade exec shares px = report exec (Trade (record { shares = shares; px = px }))

-- 60 shares at 10.25 and 40 at 10.2
abbrev pub two_trades : List Note
two_trades = trade (codes "E1") 60 (codes "10.25") ∷ trade (codes "E2") 40 (codes "10.2") ∷ []

-- the second one is busted
abbrev pub one_busted : List Note
one_busted =
    trade (codes "E1") 60 (codes "10.25") ∷ trade (codes "E2") 40 (codes "10.2")
    ∷ report (codes "E3") (Bust (codes "E2")) ∷ []

-- the second one has a price that can't be read
abbrev pub one_unpriced : List Note
one_unpriced = trade (codes "E1") 60 (codes "10.25") ∷ trade (codes "E2") 40 (codes "market") ∷ []
