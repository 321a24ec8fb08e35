-- The first report that passes a test, by its place.
use Rattle.std.proofs.Common.{◌≡◌, ℕ, suc, ◌<◌, ◌≤◌, Bool, true, false, inl, inr, List, [], ◌∷◌, ◌++◌, length, refl, ap, sym, subst, ◌∙◌, arith}
use Rattle.std.specs.Prelude.{Option, Some, None, IsSome, ◌==◌, ◌&&◌, ◌||◌, option_and_then, option_map, nat_le, nat_lt, slice_get, if◌then◌else◌}
use Rattle.std.specs.Str.{bytes_eq}
use Rattle.std.proofs.lemmas.Bool.{cases_Bool}
use Rattle.log_rules.specs.declared.number_places.NumberPlaces.{NumberPlaces}
use Rattle.log_rules.specs.declared.text_places.TextPlaces.{TextPlaces}
use Rattle.log_rules.specs.Kept.{KeepsExecs, KeepsNumbers, first_report}
use Rattle.log_rules.specs.KeptReport.{ReportParts}
use Rattle.log_rules.specs.Ledger.{has_report_in, report_of_exec, report_under}
use Rattle.log_rules.specs.Places.{HasPlaceIn, first_kept, number_place, text_place}

kept_later : (is_last : Bool) (count : ℕ) (before : Option ℕ)
    → option_map suc (first_kept is_last count before) ≡ first_kept is_last (suc count) (option_map suc before)
kept_later is_last count (Some place) = refl
kept_later true count None = refl
kept_later false count None = refl

kept_first : (is_first is_last : Bool) (count : ℕ) (later : Option ℕ)
    → (if is_first then Some 0 else option_map suc (first_kept is_last count later))
    ≡ first_kept is_last (suc count) (if is_first then Some 0 else option_map suc later)
kept_first true is_last count later = refl
kept_first false is_last count later = kept_later is_last count later

-- with one report more it is as before, or that one if it passes the test
pub first_pushed : (test : ReportParts → Bool) (reports : List ReportParts) (r : ReportParts)
    → first_report test (reports ++ r ∷ []) ≡ first_kept (test r) (length reports) (first_report test reports)
first_pushed test [] r = refl
first_pushed test (x ∷ xs) r =
    ap (λ later. if test x then Some 0 else option_map suc later) (first_pushed test xs r)
    ∙ kept_first (test x) (test r) (length xs) (first_report test xs)

-- the report at a place behind the first one
at_next : (r : ReportParts) (rs : List ReportParts) (place : Option ℕ)
    → option_and_then (slice_get (r ∷ rs)) (option_map suc place) ≡ option_and_then (slice_get rs) place
at_next r rs (Some place) = refl
at_next r rs None = refl

at_first : (is_first : Bool) (r : ReportParts) (rs : List ReportParts) (place : Option ℕ)
    → option_and_then (slice_get (r ∷ rs)) (if is_first then Some 0 else option_map suc place)
    ≡ (if is_first then Some r else option_and_then (slice_get rs) place)
at_first true r rs place = refl
at_first false r rs place = at_next r rs place

-- the first report of a number
first_under : (number : ℕ) (reports : List ReportParts)
    → option_and_then (slice_get reports) (first_report (λ r. r.number == number) reports) ≡ report_under number reports
first_under number [] = refl
first_under number (r ∷ rs) =
    at_first (r.number == number) r rs (first_report (λ s. s.number == number) rs)
    ∙ ap (λ later. if r.number == number then Some r else later) (first_under number rs)

-- the first report of an ExecID
first_of_exec : (exec : List ℕ) (reports : List ReportParts)
    → option_and_then (slice_get reports) (first_report (λ r. bytes_eq r.exec exec) reports) ≡ report_of_exec exec reports
first_of_exec exec [] = refl
first_of_exec exec (r ∷ rs) =
    at_first (bytes_eq r.exec exec) r rs (first_report (λ s. bytes_eq s.exec exec) rs)
    ∙ ap (λ later. if bytes_eq r.exec exec then Some r else later) (first_of_exec exec rs)

-- the report at the place that is kept under a number
pub found_under : (by_number : NumberPlaces) (reports : List ReportParts) (number : ℕ) (place : Option ℕ)
    → KeepsNumbers by_number reports → place ≡ number_place by_number number
    → option_and_then (slice_get reports) place ≡ report_under number reports
found_under by_number reports number place kept is =
    ap (option_and_then (slice_get reports)) (is ∙ kept number) ∙ first_under number reports

-- the report at the place that is kept under an ExecID
pub found_of_exec : (by_exec : TextPlaces) (reports : List ReportParts) (exec : List ℕ) (place : Option ℕ)
    → KeepsExecs by_exec reports → place ≡ text_place by_exec exec
    → option_and_then (slice_get reports) place ≡ report_of_exec exec reports
found_of_exec by_exec reports exec place kept is =
    ap (option_and_then (slice_get reports)) (is ∙ kept exec) ∙ first_of_exec exec reports

in_range : (from to number : ℕ) → from ≤ number → number < to → (nat_le from number && nat_lt number to) ≡ true
in_range from to number low high = grind (arith, low, high)

from_at_most : (from to number : ℕ) → (nat_le from number && nat_lt number to) ≡ true → from ≤ number
from_at_most from to number both = grind (arith, both)

below_to : (from to number : ℕ) → (nat_le from number && nat_lt number to) ≡ true → number < to
below_to from to number both = grind (arith, both)

or_later : (here later : Bool) → later ≡ true → (here || later) ≡ true
or_later here later there = grind (arith, there)

or_here : (here later : Bool) → here ≡ true → (here || later) ≡ true
or_here here later there = grind (arith, there)

or_none : (here later : Bool) → here ≡ false → later ≡ false → (here || later) ≡ false
or_none here later a b = grind (arith, a, b)

-- a report of a number of the range is one in the range
one_in : (is_first : Bool) (from to number own : ℕ) (first : Option ℕ) (later : Bool) → is_first ≡ (own == number)
    → from ≤ number → number < to → (IsSome first → later ≡ true)
    → IsSome (if is_first then Some 0 else option_map suc first) → ((nat_le from own && nat_lt own to) || later) ≡ true
one_in true from to number own first later is low high among there =
    let same : own ≡ number = grind (arith, is) in
    or_here (nat_le from own && nat_lt own to) later
    (ap (λ n. nat_le from n && nat_lt n to) same ∙ in_range from to number low high)
one_in false from to number own (Some place) later is low high among there =
    or_later (nat_le from own && nat_lt own to) later (among there)
one_in false from to number own None later is low high among there = cc

has_where_some : (from to number : ℕ) (reports : List ReportParts) → from ≤ number → number < to
    → IsSome (first_report (λ r. r.number == number) reports) → has_report_in from to reports ≡ true
has_where_some from to number [] low high there = cc
has_where_some from to number (r ∷ rs) low high there =
    one_in (r.number == number) from to number r.number (first_report (λ s. s.number == number) rs)
    (has_report_in from to rs) refl low high (has_where_some from to number rs low high) there

none_behind : (is_first : Bool) (first : Option ℕ) → (if is_first then Some 0 else option_map suc first) ≡ None
    → first ≡ None
none_behind true first none = cc
none_behind false None none = refl
none_behind false (Some place) none = cc

none_first : (is_first : Bool) (first : Option ℕ) → is_first ≡ true
    → (if is_first then Some 0 else option_map suc first) ≡ None → ⊥
none_first true first own none = cc
none_first false first own none = cc

-- where no number of the range has a report, none is in the range
has_where_none : (from to : ℕ) (reports : List ReportParts)
    → ((number : ℕ) → from ≤ number → number < to → first_report (λ r. r.number == number) reports ≡ None)
    → has_report_in from to reports ≡ false
has_where_none from to [] none = refl
has_where_none from to (r ∷ rs) none =
    let later : has_report_in from to rs ≡ false = has_where_none from to rs (λ number low high.
    none_behind (r.number == number) (first_report (λ s. s.number == number) rs) (none number low high)) in
    elim (cases_Bool (nat_le from r.number && nat_lt r.number to)) [
      | inl here ↦
          absurd (none_first (r.number == r.number) (first_report (λ s. s.number == r.number) rs) (grind arith)
          (none r.number (from_at_most from to r.number here) (below_to from to r.number here)))
      | inr apart ↦ or_none (nat_le from r.number && nat_lt r.number to) (has_report_in from to rs) apart later
    ]

-- a place is kept in a range exactly where a report is in it
pub has_kept : (places : NumberPlaces) (reports : List ReportParts) (from to : ℕ) (answer : Bool)
    → KeepsNumbers places reports → HasPlaceIn places from to answer → answer ≡ has_report_in from to reports
has_kept places reports from to true kept has =
    sym (has_where_some from to has.0 reports has.1 has.2 (subst IsSome (kept has.0) has.3))
has_kept places reports from to false kept none =
    sym (has_where_none from to reports (λ number low high. sym (kept number) ∙ none number low high))
