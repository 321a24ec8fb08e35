-- What is kept beside the orders and the reports, so that no look-up walks them.
use Rattle.std.specs.Prelude.{◌≡◌, ℕ, suc, Bool, List, [], ◌∷◌, Option, Some, None, option_map, ◌==◌, if◌then◌else◌}
use Rattle.std.specs.Str.{bytes_eq}
use Rattle.log_rules.specs.declared.number_places.NumberPlaces.{NumberPlaces}
use Rattle.log_rules.specs.declared.text_places.TextPlaces.{TextPlaces}
use Rattle.log_rules.specs.KeptReport.{ReportParts}
use Rattle.log_rules.specs.Ledger.{newest_order, newest_under}
use Rattle.log_rules.specs.Order.{OrderParts}
use Rattle.log_rules.specs.Places.{number_place, text_place}

-- under each id the place of its newest order
abbrev pub KeepsOrders : TextPlaces → List OrderParts → Type 0
KeepsOrders by_id orders = (id : List ℕ) → text_place by_id id ≡ newest_order orders id

-- under each number the place of the newest order that was sent under it
abbrev pub KeepsOrderNumbers : NumberPlaces → List OrderParts → Type 0
KeepsOrderNumbers by_number orders = (number : ℕ) → number_place by_number number ≡ newest_under orders number

-- the place of the first report that passes a test
abbrev pub first_report : (ReportParts → Bool) → List ReportParts → Option ℕ
first_report test [] = None
first_report test (r ∷ rs) = if test r then Some 0 else option_map suc (first_report test rs)

-- under each number the place of the first report that came under it
abbrev pub KeepsNumbers : NumberPlaces → List ReportParts → Type 0
KeepsNumbers by_number reports =
    (number : ℕ) → number_place by_number number ≡ first_report (λ r. r.number == number) reports

-- under each ExecID the place of its first report
abbrev pub KeepsExecs : TextPlaces → List ReportParts → Type 0
KeepsExecs by_exec reports =
    (exec : List ℕ) → text_place by_exec exec ≡ first_report (λ r. bytes_eq r.exec exec) reports
