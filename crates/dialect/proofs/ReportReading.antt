-- What a report that was read says.
use Rattle.std.proofs.Common.{◌≡◌, ◌==◌, ℕ, Bool, true, false, cond, List, [], ◌∷◌, Some, option_map, Result, Ok, Err, IfOk, refl, sym, ap, subst, ◌∙◌, if◌then◌else◌}
use Rattle.std.proofs.lemmas.Bool.{eqb-true, leb-true, and_parts}
use Rattle.std.proofs.lemmas.Option.{cond_some, option_and_then_some}
use Rattle.fix_text.specs.Tagged.{Tagged, value_of}
use Rattle.fix_tags.specs.Shares.{shares_of}
use Rattle.leg.specs.LegId.{LegIdParts}
use Rattle.leg.specs.Terms.{IsShares}
use Rattle.dialect.specs.declared.fault.DialectFault.{DialectFault}
use Rattle.dialect.specs.declared.report.Report.{Report}
use Rattle.dialect.specs.declared.report.ReportKind.{ReportKind}
use Rattle.dialect.specs.declared.report.ReportKind.TheVariants.{New, Trade, Canceled, Rejected, Expired, Bust}
use Rattle.dialect.specs.Fields.{required, required_as, ReadsAs}
use Rattle.dialect.specs.Fill.{FillParts, IsFill}
use Rattle.dialect.specs.FreeText.{IsFreeText, free_text_of}
use Rattle.dialect.specs.Limit.{order_shares_of}
use Rattle.dialect.specs.Report.{IsReportKind}
use Rattle.dialect.specs.ReportFields.{exec_type_text}
use Rattle.dialect.specs.ReportRead.{fill_in, trade_in, bust_in, tells_state, kind_of_byte, kind_of_text, kind_in, report_read_of}
use Rattle.dialect.specs.ReportReading.{SaysFill, SaysDetail, exec_type_read, IsReportReadingOf}
use Rattle.dialect.specs.Spelling.{SpellingParts, IsSpelling}
use Rattle.dialect.specs.Lemmas.StepLaws.{bind_ok, step, same_ok, was_some, required_as-Ok}

-- a text that a venue picks is there as it is
record IsText (greatest : ℕ) (fields : List Tagged) (tag : ℕ) (text : List ℕ) : Type 0 where
  in_range : IsFreeText greatest text
  there : value_of fields tag ≡ Some text

free_text-Ok : (greatest : ℕ) (fields : List Tagged) (tag : ℕ) (text : List ℕ)
    → required_as (free_text_of greatest) fields tag ≡ Ok text → IsText greatest fields tag text
free_text-Ok greatest fields tag text e =
    let read = required_as-Ok (free_text_of greatest) fields tag text e in
    let is = cond_some _ read.text text read.reads_as in
    subst (IsText greatest fields tag) is.1 (record { in_range = is.0; there = read.there })

-- shares that a trade may be for
record AreShares (fields : List Tagged) (shares : ℕ) : Type 0 where
  in_range : IsShares shares
  reads_as : ReadsAs shares_of fields 32 shares

order_shares_of-Some : (text : List ℕ) (shares : ℕ) → order_shares_of text ≡ Some shares
    → (shares_of text ≡ Some shares) × IsShares shares
order_shares_of-Some text shares e =
    option_and_then_some _ (shares_of text) shares e (λ n is test.
    let passed = cond_some _ n shares test in
    let bounds = and_parts _ _ passed.0 in (
      is ∙ ap Some passed.1,
      subst IsShares passed.1 (record { low = leb-true _ _ bounds.0; high = leb-true _ _ bounds.1 }),
    ))

shares-Ok : (fields : List Tagged) (shares : ℕ) → required_as order_shares_of fields 32 ≡ Ok shares
    → AreShares fields shares
shares-Ok fields shares e =
    let read = required_as-Ok order_shares_of fields 32 shares e in
    let is = order_shares_of-Some read.text shares read.reads_as in
    record { in_range = is.1; reads_as = record { text = read.text; there = read.there; reads_as = is.0 } }

-- a trade in range, as the fields say it
record IsFillRead (fields : List Tagged) (fill : FillParts) : Type 0 where
  in_range : IsFill fill
  says : SaysFill fields fill

fill_in-Ok : (fields : List Tagged) (fill : FillParts) → fill_in fields ≡ Ok fill → IsFillRead fields fill
unfolding fill_in
fill_in-Ok fields fill e =
    step _ (required_as order_shares_of fields 32) fill e (λ shares first e1.
    step _ (required_as (free_text_of 20) fields 31) fill e1 (λ px second e2.
    let are = shares-Ok fields shares first in
    let is = free_text-Ok 20 fields 31 px second in
    subst (IsFillRead fields) (same_ok _ fill e2)
    (record { in_range = record { shares = are.in_range; px = is.in_range }; says = record { shares = are.reads_as; px = is.there } })))

-- a kind in range, of this byte, as the fields say it
record IsKindRead (fields : List Tagged) (text : List ℕ) (kind : ReportKind) : Type 0 where
  in_range : IsReportKind kind
  text_is : exec_type_read text ≡ exec_type_text kind
  detail : SaysDetail fields kind

trade_in-Ok : (fields : List Tagged) (kind : ReportKind) → trade_in fields ≡ Ok kind → IsKindRead fields (70 ∷ []) kind
trade_in-Ok fields kind e =
    step _ (fill_in fields) kind e (λ fill first e1.
    let read = fill_in-Ok fields fill first in
    subst (IsKindRead fields (70 ∷ [])) (same_ok (Trade fill) kind e1)
    (record { in_range = read.in_range; text_is = refl; detail = read.says }))

bust_in-Ok : (fields : List Tagged) (kind : ReportKind) → bust_in fields ≡ Ok kind → IsKindRead fields (72 ∷ []) kind
bust_in-Ok fields kind e =
    step _ (required_as (free_text_of 64) fields 19) kind e (λ id first e1.
    let read = free_text-Ok 64 fields 19 id first in
    subst (IsKindRead fields (72 ∷ [])) (same_ok (Bust id) kind e1)
    (record { in_range = read.in_range; text_is = refl; detail = read.there }))

-- one more byte is tried
tried : (fields : List Tagged) (c code : ℕ) (kind : ReportKind) (b : Bool)
    (here later : Result ReportKind DialectFault) → (c == code) ≡ b → cond b here later ≡ Ok kind
    → (here ≡ Ok kind → IsKindRead fields (code ∷ []) kind) → (later ≡ Ok kind → IsKindRead fields (c ∷ []) kind)
    → IsKindRead fields (c ∷ []) kind
tried fields c code kind true here later is e this other =
    subst (λ byte. IsKindRead fields (byte ∷ []) kind) (sym (eqb-true c code is)) (this e)
tried fields c code kind false here later is e this other = other e

-- whether the byte tells the state alone is tried first
state_first : (fields : List Tagged) (c : ℕ) (kind : ReportKind) (b : Bool) (later : Result ReportKind DialectFault)
    → tells_state c ≡ b → cond b (Ok New) later ≡ Ok kind → (later ≡ Ok kind → IsKindRead fields (c ∷ []) kind)
    → IsKindRead fields (c ∷ []) kind
state_first fields c kind true later is e other = subst (IsKindRead fields (c ∷ [])) (same_ok New kind e)
    (record { in_range = tt; text_is = ap (λ b. (if b then 48 else (if c == 51 then 67 else c)) ∷ []) is; detail = tt })
state_first fields c kind false later is e other = other e

kind_of_byte-Ok : (fields : List Tagged) (c : ℕ) (kind : ReportKind) → kind_of_byte fields c ≡ Ok kind
    → IsKindRead fields (c ∷ []) kind
kind_of_byte-Ok fields c kind e =
    state_first fields c kind (tells_state c) _ refl e (λ e1.
    tried fields c 70 kind (c == 70) _ _ refl e1 (trade_in-Ok fields kind) (λ e2.
    tried fields c 52 kind (c == 52) _ _ refl e2 (λ is. subst (IsKindRead fields (52 ∷ []))
    (same_ok Canceled kind is) (record { in_range = tt; text_is = refl; detail = tt })) (λ e3.
    tried fields c 56 kind (c == 56) _ _ refl e3 (λ is. subst (IsKindRead fields (56 ∷ []))
    (same_ok Rejected kind is) (record { in_range = tt; text_is = refl; detail = tt })) (λ e4.
    tried fields c 67 kind (c == 67) _ _ refl e4 (λ is. subst (IsKindRead fields (67 ∷ [])) (same_ok Expired kind is)
    (record { in_range = tt; text_is = refl; detail = tt })) (λ e5.
    tried fields c 51 kind (c == 51) _ _ refl e5 (λ is. subst (IsKindRead fields (51 ∷ [])) (same_ok Expired kind is)
    (record { in_range = tt; text_is = refl; detail = tt })) (λ e6.
    tried fields c 72 kind (c == 72) _ _ refl e6 (bust_in-Ok fields kind) (λ e7. cc)))))))

kind_of_text-Ok : (fields : List Tagged) (text : List ℕ) (kind : ReportKind) → kind_of_text fields text ≡ Ok kind
    → IsKindRead fields text kind
kind_of_text-Ok fields [] kind e = cc
kind_of_text-Ok fields (c ∷ []) kind e = kind_of_byte-Ok fields c kind e
kind_of_text-Ok fields (c ∷ d ∷ ds) kind e = cc

-- what is known of the parts that were read
parts_say : (s : SpellingParts) (fields : List Tagged) (id : LegIdParts) (exec : List ℕ) (kind : ReportKind)
    → IsSpelling s → required_as s.id_of fields 11 ≡ Ok id → required_as (free_text_of 64) fields 17 ≡ Ok exec
    → kind_in fields ≡ Ok kind → IsReportReadingOf s (record { id = id; exec = exec; kind = kind }) fields
parts_say s fields id exec kind laws first second third =
    let id_read = required_as-Ok s.id_of fields 11 id first in
    let id_is = laws.id_says id_read.text id id_read.reads_as in
    let exec_read = free_text-Ok 64 fields 17 exec second in
    let there = bind_ok (required fields 150) (kind_of_text fields) kind third in
    let kind_read = kind_of_text-Ok fields there.0 kind there.2 in
    record {
      in_range = record { id = id_is.0; exec = exec_read.in_range; kind = kind_read.in_range };
      id = id_read.there ∙ ap Some id_is.1;
      exec = exec_read.there;
      kind = ap (option_map exec_type_read) (was_some _ _ _ there.1) ∙ ap Some kind_read.text_is;
      detail = kind_read.detail;
    }

report_read_of-Ok : (s : SpellingParts) (fields : List Tagged) (report : Report) → IsSpelling s
    → report_read_of s fields ≡ Ok report → IsReportReadingOf s report fields
unfolding report_read_of
report_read_of-Ok s fields report laws e =
    step _ (required_as s.id_of fields 11) report e (λ id first e1.
    step _ (required_as (free_text_of 64) fields 17) report e1 (λ exec second e2.
    step _ (kind_in fields) report e2 (λ kind third e3.
    subst (λ (r : Report). IsReportReadingOf s r fields) (same_ok _ report e3)
    (parts_say s fields id exec kind laws first second third))))

pub report_reading : (s : SpellingParts) (fields : List Tagged) (read : Result Report DialectFault) → IsSpelling s
    → read ≡ report_read_of s fields → IfOk read (λ report. IsReportReadingOf s report fields)
report_reading s fields (Ok report) laws e = report_read_of-Ok s fields report laws (sym e)
report_reading s fields (Err fault) laws e = tt
