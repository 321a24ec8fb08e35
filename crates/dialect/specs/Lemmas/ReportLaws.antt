-- Lemmas: a report that was written is read back, for any spelling.
use Rattle.std.proofs.Common.{◌≡◌, ◌==◌, ◌⊎◌, inl, inr, ℕ, Bool, true, not, List, [], ◌∷◌, ◌++◌, map, Some, Ok, refl, sym, subst}
use Rattle.std.specs.List.{list_all}
use Rattle.std.proofs.lemmas.Bool.{and_parts, and_from, not-true}
use Rattle.fix_text.specs.Tagged.{Tagged, value_of}
use Rattle.leg.specs.LegId.{LegIdParts}
use Rattle.leg.specs.Symbol.{SymbolParts}
use Rattle.dialect.specs.declared.report.Report.{Report}
use Rattle.dialect.specs.declared.report.ReportKind.{ReportKind}
use Rattle.dialect.specs.declared.report.ReportKind.TheVariants.{New, Trade, Canceled, Rejected, Expired, Bust}
use Rattle.dialect.specs.Dialect.{SaysView}
use Rattle.dialect.specs.FreeText.{IsFreeText, free_text_of}
use Rattle.dialect.specs.Lemmas.LimitLaws.{order_shares_of-decimal}
use Rattle.dialect.specs.OrderView.{OrderViewParts}
use Rattle.dialect.specs.Report.{IsReport, IsReportKind}
use Rattle.dialect.specs.ReportFields.{amount_fields, report_fields, IsReportOf}
use Rattle.dialect.specs.ReportRead.{fill_in, kind_in, report_read_of}
use Rattle.dialect.specs.Spelling.{SpellingParts, IsSpelling}

-- no tag of the list is this one
abbrev tags_without : ℕ → List ℕ → Bool
tags_without tag tags = list_all (λ t. not (t == tag)) tags

-- behind fields that have other tags the value is still found
value_of-behind : (tag : ℕ) (front back : List Tagged) → tags_without tag (map (λ f. f.tag) front) ≡ true
    → value_of (front ++ back) tag ≡ value_of back tag
value_of-behind tag [] back none = refl
value_of-behind tag (first ∷ front) back none =
    let parts = and_parts (not (first.tag == tag)) _ none in
    rw (not-true (first.tag == tag) parts.0) (value_of-behind tag front back parts.1)

tags_without-symbol : (tag : ℕ) (tags : List ℕ) → (tags ≡ 55 ∷ []) ⊎ (tags ≡ 55 ∷ 65 ∷ [])
    → tags_without tag (55 ∷ 65 ∷ []) ≡ true → tags_without tag tags ≡ true
tags_without-symbol tag tags (inl joined) other =
    subst (λ tags. tags_without tag tags ≡ true) (sym joined) (and_from _ _ (and_parts (not
    (55 == tag)) _ other).0 refl)
tags_without-symbol tag tags (inr parted) other =
    subst (λ tags. tags_without tag tags ≡ true) (sym parted) other

-- the fields of a symbol have the tags 55 and 65
value_of-behind_symbol : (s : SpellingParts) (law : IsSpelling s) (symbol : SymbolParts) (tag : ℕ)
    (back : List Tagged) → tags_without tag (55 ∷ 65 ∷ []) ≡ true
    → value_of (s.symbol_fields symbol ++ back) tag ≡ value_of back tag
value_of-behind_symbol s law symbol tag back other =
    value_of-behind tag (s.symbol_fields symbol) back (tags_without-symbol tag _ (law.symbol_tags symbol) other)

-- the report of these parts
abbrev report_of : LegIdParts → List ℕ → ReportKind → Report
report_of id exec kind = record { id = id; exec = exec; kind = kind }

free_text_again : (greatest : ℕ) (text : List ℕ) → IsFreeText greatest text → free_text_of greatest text ≡ Some text
free_text_again greatest text range = rw range refl

kind_again : (s : SpellingParts) (law : IsSpelling s) (id : LegIdParts) (exec : List ℕ) (kind : ReportKind)
    (view : OrderViewParts) → IsReportKind kind → kind_in (report_fields s (report_of id exec kind) view) ≡ Ok kind
unfolding fill_in
kind_again s law id exec New view range = refl
kind_again s law id exec (Trade fill) view range =
    let symbol = view.leg.terms.symbol in
    let back = amount_fields (report_of id exec (Trade fill)) view in
    let shares = value_of-behind_symbol s law symbol 32 back refl in
    let px = value_of-behind_symbol s law symbol 31 back refl in
    rw (shares, order_shares_of-decimal fill.shares range.shares, px, range.px) refl
kind_again s law id exec Canceled view range = refl
kind_again s law id exec Rejected view range = refl
kind_again s law id exec Expired view range = refl
kind_again s law id exec (Bust cancelled_id) view range = rw range refl

-- the leg's number is found, whatever the kind
id_there : (s : SpellingParts) (id : LegIdParts) (exec : List ℕ) (kind : ReportKind) (view : OrderViewParts)
    → value_of (report_fields s (report_of id exec kind) view) 11 ≡ Some (s.id_text id)
id_there s id exec New view = refl
id_there s id exec (Trade fill) view = refl
id_there s id exec Canceled view = refl
id_there s id exec Rejected view = refl
id_there s id exec Expired view = refl
id_there s id exec (Bust cancelled_id) view = refl

written_again : (s : SpellingParts) (law : IsSpelling s) (id : LegIdParts) (exec : List ℕ) (kind : ReportKind)
    (view : OrderViewParts) → IsReport (report_of id exec kind)
    → report_read_of s (report_fields s (report_of id exec kind) view) ≡ Ok (report_of id exec kind)
unfolding report_read_of
written_again s law id exec kind view range =
    let fields = report_fields s (report_of id exec kind) view in
    let own : value_of fields 11 ≡ Some (s.id_text id) = id_there s id exec kind view in
    let exec_there : value_of fields 17 ≡ Some exec = refl in
    rw (own, law.id_reads_back id range.id, range.exec, kind_again s law id exec kind view range.kind) refl

-- what is written of a report is read as it
pub report_back : (s : SpellingParts) (report : Report) (view : OrderViewParts) (fields : List Tagged) → IsSpelling s
    → IsReportOf s report view fields → report_read_of s fields ≡ Ok report
report_back s report view fields law is =
    subst (λ (fields : List Tagged). report_read_of s fields ≡ Ok report) (sym is.written)
    (written_again s law report.id report.exec report.kind view is.in_range)

-- what its exchange knew is said, whatever the kind
module _ (s : SpellingParts) (law : IsSpelling s) (id : LegIdParts) (exec : List ℕ) (view : OrderViewParts) where
  view_said : (kind : ReportKind)
      → SaysView (report_of id exec kind) view (report_fields s (report_of id exec kind) view)
  view_said New = record {
    order_id = refl;
    status = refl;
    cum = value_of-behind_symbol s law view.leg.terms.symbol 14 (amount_fields (report_of id exec New) view) refl;
    leaves = value_of-behind_symbol s law view.leg.terms.symbol 151 (amount_fields (report_of id exec New) view) refl;
  }
  view_said (Trade fill) = record {
    order_id = refl;
    status = refl;
    cum = value_of-behind_symbol s law view.leg.terms.symbol 14
        (amount_fields (report_of id exec (Trade fill)) view) refl;
    leaves = value_of-behind_symbol s law view.leg.terms.symbol 151
        (amount_fields (report_of id exec (Trade fill)) view) refl;
  }
  view_said Canceled = record {
    order_id = refl;
    status = refl;
    cum = value_of-behind_symbol s law view.leg.terms.symbol 14 (amount_fields (report_of id exec Canceled) view) refl;
    leaves =
        value_of-behind_symbol s law view.leg.terms.symbol 151 (amount_fields (report_of id exec Canceled) view) refl;
  }
  view_said Rejected = record {
    order_id = refl;
    status = refl;
    cum = value_of-behind_symbol s law view.leg.terms.symbol 14 (amount_fields (report_of id exec Rejected) view) refl;
    leaves =
        value_of-behind_symbol s law view.leg.terms.symbol 151 (amount_fields (report_of id exec Rejected) view) refl;
  }
  view_said Expired = record {
    order_id = refl;
    status = refl;
    cum = value_of-behind_symbol s law view.leg.terms.symbol 14 (amount_fields (report_of id exec Expired) view) refl;
    leaves =
        value_of-behind_symbol s law view.leg.terms.symbol 151 (amount_fields (report_of id exec Expired) view) refl;
  }
  view_said (Bust cancelled_id) = record {
    order_id = refl;
    status = refl;
    cum = value_of-behind_symbol s law view.leg.terms.symbol 14
        (amount_fields (report_of id exec (Bust cancelled_id)) view) refl;
    leaves = value_of-behind_symbol s law view.leg.terms.symbol 151
        (amount_fields (report_of id exec (Bust cancelled_id)) view) refl;
  }

pub report_said : (s : SpellingParts) (report : Report) (view : OrderViewParts) (fields : List Tagged) → IsSpelling s
    → IsReportOf s report view fields → SaysView report view fields
report_said s report view fields law is =
    subst (SaysView report view) (sym is.written) (view_said s law report.id report.exec view report.kind)
