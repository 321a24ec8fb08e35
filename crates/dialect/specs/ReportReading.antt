-- What fields say that are read as a report (FIX 4.4 Volume 4, ExecutionReport).
use Rattle.std.specs.Prelude.{◌≡◌, ◌==◌, ℕ, List, [], ◌∷◌, Some, option_map, if◌then◌else◌}
use Rattle.fix_text.specs.Tagged.{Tagged, value_of}
use Rattle.fix_tags.specs.Shares.{shares_of}
use Rattle.dialect.specs.declared.report.Report.{Report}
use Rattle.dialect.specs.declared.report.ReportKind.{ReportKind}
use Rattle.dialect.specs.declared.report.ReportKind.TheVariants.{New, Trade, Canceled, Rejected, Expired, Bust}
use Rattle.dialect.specs.Fields.{ReadsAs}
use Rattle.dialect.specs.Fill.{FillParts}
use Rattle.dialect.specs.Report.{IsReport}
use Rattle.dialect.specs.ReportFields.{exec_type_text}
use Rattle.dialect.specs.ReportRead.{tells_state}
use Rattle.dialect.specs.Spelling.{SpellingParts}

-- 32 says a trade's shares, and 31 its price
pub record SaysFill (fields : List Tagged) (fill : FillParts) : Type 0 where
  pub shares : ReadsAs shares_of fields 32 fill.shares
  pub px : value_of fields 31 ≡ Some fill.px

-- what a kind says beside 150: a trade what was traded, a bust which report it undoes (19)
abbrev pub SaysDetail : List Tagged → ReportKind → Type 0
SaysDetail fields New = Unit {0}
SaysDetail fields (Trade fill) = SaysFill fields fill
SaysDetail fields Canceled = Unit {0}
SaysDetail fields Rejected = Unit {0}
SaysDetail fields Expired = Unit {0}
SaysDetail fields (Bust cancelled_id) = value_of fields 19 ≡ Some cancelled_id

-- the text of 150 that is written for what this one says: done for day (`3`) ends an order as expired (`C`) does, and
-- what tells the state alone is read as new (`0`)
abbrev pub exec_type_read : List ℕ → List ℕ
exec_type_read [] = []
exec_type_read (c ∷ cs) = (if tells_state c then 48 else (if c == 51 then 67 else c)) ∷ cs

-- what fields say that are read as this report: but for a trade's shares and for 150, each value is the one that is
-- written
pub record IsReportReadingOf (s : SpellingParts) (report : Report) (fields : List Tagged) : Type 0 where
  pub in_range : IsReport report
  pub id : value_of fields 11 ≡ Some (s.id_text report.id)
  pub exec : value_of fields 17 ≡ Some report.exec
  pub kind : option_map exec_type_read (value_of fields 150) ≡ Some (exec_type_text report.kind)
  pub detail : SaysDetail fields report.kind
