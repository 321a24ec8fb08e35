-- Lemmas: a report that was written fits a message, for any spelling.
use Rattle.std.proofs.Common.{◌≡◌, ◌==◌, ◌⊎◌, inl, inr, ℕ, ◌≤◌, Bool, true, false, ◌&&◌, not, nat_le, List, [], ◌∷◌, ◌++◌, length, map, codes, decimal, if◌then◌else◌, refl, sym, subst, arith, length-append}
use Rattle.std.specs.List.{AllByRecursion}
use Rattle.std.proofs.lemmas.Bool.{and_parts, leb-true}
use Rattle.std.proofs.lemmas.Fmt.{length-decimal-le}
use Rattle.std.proofs.lemmas.List.{length-map}
use Rattle.fix_text.specs.Tagged.{Tagged}
use Rattle.fix_text.specs.Text.{is_writable_tag}
use Rattle.fix_tags.specs.App.{is_header_tag}
use Rattle.dialect.specs.declared.report.Report.{Report}
use Rattle.dialect.specs.declared.report.ReportKind.{ReportKind}
use Rattle.dialect.specs.declared.report.ReportKind.TheVariants.{New, Trade, Canceled, Rejected, Expired, Bust}
use Rattle.dialect.specs.Dialect.{FitsMessage}
use Rattle.dialect.specs.Lemmas.FieldLaws.{IsFieldWithin, FitsMessage-within}
use Rattle.dialect.specs.ShortFields.{IsShortValue, IsShortField}
use Rattle.dialect.specs.Fields.{field}
use Rattle.dialect.specs.FreeText.{IsFreeText}
use Rattle.dialect.specs.OrderView.{OrderViewParts, IsOrderView}
use Rattle.dialect.specs.Report.{IsReport, IsReportKind}
use Rattle.dialect.specs.ReportFields.{exec_type_text, ord_status_text, cancelled_fields, fill_fields, event_fields, amount_fields, report_fields, IsReportOf}
use Rattle.dialect.specs.Spelling.{SpellingParts, IsSpelling}
use Rattle.dialect.specs.Lemmas.ValueLaws.{short_count, short_side}

-- a tag of at most three digits with a value of at most 64 bytes
abbrev IsReportField : Tagged → Type 0
IsReportField f = IsFieldWithin 3 64 f

-- fields that are all such
abbrev AreReportFields : List Tagged → Type 0
AreReportFields fields = AllByRecursion IsReportField fields

AreReportFields-append : (front back : List Tagged) → AreReportFields front → AreReportFields back
    → AreReportFields (front ++ back)
AreReportFields-append [] back before behind = behind
AreReportFields-append (first ∷ front) back before behind =
    (before.0, AreReportFields-append front back before.1 behind)

length-report_tag : (tag : ℕ) → tag ≤ 999 → length (decimal tag) ≤ 3
length-report_tag tag small = length-decimal-le 3 tag (omega arith) (omega arith) (omega arith)

free_field : (tag greatest : ℕ) (value : List ℕ) → (is_writable_tag tag && not (is_header_tag tag)) ≡ true → tag ≤ 999
    → greatest ≤ 64 → IsFreeText greatest value → IsReportField (field tag value)
free_field tag greatest value own small short range =
    let parts = and_parts (nat_le (length value) greatest) _ range in
    let within = leb-true _ _ parts.0 in
    record {
      tag = own;
      digits = length-report_tag tag small;
      writable = parts.1;
      short = omega arith;
    }

narrow_field : (f : Tagged) → f.tag ≤ 999 → IsShortField f → IsReportField f
narrow_field f small short = record {
  tag = short.tag;
  digits = length-report_tag f.tag small;
  writable = short.value.writable;
  short = omega (arith, short.value.short);
}

short_report_field : (tag : ℕ) (value : List ℕ) → (is_writable_tag tag && not (is_header_tag tag)) ≡ true → tag ≤ 999
    → IsShortValue value → IsReportField (field tag value)
short_report_field tag value own small short =
    narrow_field (field tag value) small (record { tag = own; value = short })

narrow_fields : (fields : List Tagged) → AllByRecursion (λ tag. tag ≤ 999) (map (λ f. f.tag) fields)
    → AllByRecursion IsShortField fields → AreReportFields fields
narrow_fields [] small short = tt
narrow_fields (first ∷ fields) small short = (narrow_field first small.0 short.0, narrow_fields fields small.1 short.1)

-- the tags of a symbol's fields are few and small
record AreSymbolTags (tags : List ℕ) : Type 0 where
  few : length tags ≤ 2
  small : AllByRecursion (λ tag. tag ≤ 999) tags

are_symbol_tags : (tags : List ℕ) → (tags ≡ 55 ∷ []) ⊎ (tags ≡ 55 ∷ 65 ∷ []) → AreSymbolTags tags
are_symbol_tags tags (inl joined) =
    subst AreSymbolTags (sym joined) (record { few = omega arith; small = (omega arith, tt) })
are_symbol_tags tags (inr parted) =
    subst AreSymbolTags (sym parted) (record { few = omega arith; small = (omega arith, (omega arith, tt)) })

exec_type_short : (kind : ReportKind) → IsShortValue (exec_type_text kind)
exec_type_short New = record { writable = refl; short = omega arith }
exec_type_short (Trade fill) = record { writable = refl; short = omega arith }
exec_type_short Canceled = record { writable = refl; short = omega arith }
exec_type_short Rejected = record { writable = refl; short = omega arith }
exec_type_short Expired = record { writable = refl; short = omega arith }
exec_type_short (Bust cancelled_id) = record { writable = refl; short = omega arith }

filled_short : (none_left : Bool) → IsShortValue (if none_left then codes "2" else codes "1")
filled_short true = record { writable = refl; short = omega arith }
filled_short false = record { writable = refl; short = omega arith }

ord_status_short : (kind : ReportKind) (leaves : ℕ) → IsShortValue (ord_status_text kind leaves)
ord_status_short New leaves = record { writable = refl; short = omega arith }
ord_status_short (Trade fill) leaves = filled_short (leaves == 0)
ord_status_short Canceled leaves = record { writable = refl; short = omega arith }
ord_status_short Rejected leaves = record { writable = refl; short = omega arith }
ord_status_short Expired leaves = record { writable = refl; short = omega arith }
ord_status_short (Bust cancelled_id) leaves = record { writable = refl; short = omega arith }

-- the fields that only a bust has
record AreCancelledFields (fields : List Tagged) : Type 0 where
  fit : AreReportFields fields
  few : length fields ≤ 1

cancelled_fit : (kind : ReportKind) → IsReportKind kind → AreCancelledFields (cancelled_fields kind)
cancelled_fit New range = record { fit = tt; few = omega arith }
cancelled_fit (Trade fill) range = record { fit = tt; few = omega arith }
cancelled_fit Canceled range = record { fit = tt; few = omega arith }
cancelled_fit Rejected range = record { fit = tt; few = omega arith }
cancelled_fit Expired range = record { fit = tt; few = omega arith }
cancelled_fit (Bust cancelled_id) range = record {
  fit = (free_field 19 64 cancelled_id refl (omega arith) (omega arith) range, tt);
  few = omega arith;
}

-- the fields that only a trade has
record AreFillFields (fields : List Tagged) : Type 0 where
  fit : AreReportFields fields
  few : length fields ≤ 2

fill_fit : (kind : ReportKind) → IsReportKind kind → AreFillFields (fill_fields kind)
fill_fit New range = record { fit = tt; few = omega arith }
fill_fit (Trade fill) range = record {
  fit = (
    short_report_field 32 (decimal fill.shares) refl (omega arith) (short_count fill.shares range.shares.high),
    (free_field 31 20 fill.px refl (omega arith) (omega arith) range.px, tt),
  );
  few = omega arith;
}
fill_fit Canceled range = record { fit = tt; few = omega arith }
fill_fit Rejected range = record { fit = tt; few = omega arith }
fill_fit Expired range = record { fit = tt; few = omega arith }
fill_fit (Bust cancelled_id) range = record { fit = tt; few = omega arith }

event_fit : (s : SpellingParts) (law : IsSpelling s) (report : Report) (view : OrderViewParts) → IsReport report
    → IsOrderView view → AreReportFields (event_fields s report view)
event_fit s law report view range view_range =
    let front : List Tagged = field 37 view.order_id ∷ field 17 report.exec ∷ [] in
    let front_fit : AreReportFields front = (
      free_field 37 64 view.order_id refl (omega arith) (omega arith) view_range.order_id,
      (free_field 17 64 report.exec refl (omega arith) (omega arith) range.exec, tt),
    ) in
    let cancelled = cancelled_fit report.kind range.kind in
    AreReportFields-append (front ++ cancelled_fields report.kind) _
    (AreReportFields-append front _ front_fit cancelled.fit) (
      short_report_field 150 _ refl (omega arith) (exec_type_short report.kind),
      (
        short_report_field 39 _ refl (omega arith) (ord_status_short report.kind view.leaves),
        (short_report_field 11 _ refl (omega arith) (law.id_short report.id range.id), tt),
      ),
    )

amounts_fit : (report : Report) (view : OrderViewParts) → IsReport report → IsOrderView view
    → AreReportFields (amount_fields report view)
amounts_fit report view range view_range =
    let front : List Tagged = field 54 _ ∷ [] in
    let front_fit : AreReportFields front =
    (short_report_field 54 _ refl (omega arith) (short_side view.leg.terms.side), tt) in
    let fill = fill_fit report.kind range.kind in
    let shares = view_range.leg.terms.shares.high in
    let within = view_range.within in
    AreReportFields-append (front ++ fill_fields report.kind) _ (AreReportFields-append front _ front_fit fill.fit) (
      short_report_field 151 _ refl (omega arith) (short_count view.leaves (omega arith)),
      (
        short_report_field 14 _ refl (omega arith) (short_count view.cum (omega arith)),
        (short_report_field 6 (codes "0") refl (omega arith) (record { writable = refl; short = omega arith }), tt),
      ),
    )

written_fits : (s : SpellingParts) (law : IsSpelling s) (report : Report) (view : OrderViewParts) → IsReport report
    → IsOrderView view → FitsMessage (report_fields s report view)
written_fits s law report view range view_range =
    let symbol = view.leg.terms.symbol in
    let event = event_fields s report view in
    let amounts = amount_fields report view in
    let tags = are_symbol_tags _ (law.symbol_tags symbol) in
    let symbol_fit =
    narrow_fields (s.symbol_fields symbol) tags.small (law.symbol_short symbol view_range.leg.terms.symbol) in
    let named =
    AreReportFields-append event (s.symbol_fields symbol) (event_fit s law report view range view_range)
    symbol_fit in
    let fit =
    AreReportFields-append (event ++ s.symbol_fields symbol) amounts named
    (amounts_fit report view range view_range) in
    let cancelled_few = (cancelled_fit report.kind range.kind).few in
    let fill_few = (fill_fit report.kind range.kind).few in
    let symbol_few = length-map (s.symbol_fields symbol) (λ f. f.tag) in
    let few : length (report_fields s report view) ≤ 14 =
    simp length-append (omega (arith, cancelled_few, fill_few, symbol_few, tags.few)) in
    FitsMessage-within 3 64 (report_fields s report view) fit (omega arith)

-- a report can be written into a message, in at most 1,000 bytes
pub report_short : (s : SpellingParts) (report : Report) (view : OrderViewParts) (fields : List Tagged) → IsSpelling s
    → IsReportOf s report view fields → FitsMessage fields
report_short s report view fields law is =
    subst FitsMessage (sym is.written) (written_fits s law report view is.in_range is.view_in_range)
