-- A report that came.
use Rattle.std.specs.Prelude.{ℕ, Bool, false, ◌&&◌, List, Option, Some, ◌==◌}
use Rattle.std.specs.Str.{bytes_eq}
use Rattle.log_rules.specs.declared.report_said.Happening.{Happening}
use Rattle.log_rules.specs.declared.report_said.Happening.TheVariants.{Trade}
use Rattle.log_rules.specs.declared.report_said.ReportSaid.{ReportSaid}

-- its number, the place of the order that it is on, its ExecID (17), and how many shares it says were traded
pub record ReportParts : Type 0 where
  pub number : ℕ
  pub order : Option ℕ
  pub exec : List ℕ
  pub shares : ℕ

abbrev pub traded_by : Happening → ℕ
traded_by (Trade shares) = shares
traded_by _ = 0

abbrev pub kept_report : ℕ → Option ℕ → ReportSaid → ReportParts
kept_report number order said =
    record { number = number; order = order; exec = said.exec; shares = traded_by said.happened }

-- a report says as many shares
abbrev pub has_shares_of : ReportParts → ReportSaid → Bool
has_shares_of r said = r.shares == traded_by said.happened

-- a report is this one again: it has its ExecID and as many shares
abbrev pub is_again : ReportParts → ReportSaid → Bool
is_again r said = bytes_eq r.exec said.exec && has_shares_of r said

-- two places are those of one order
abbrev pub is_on : Option ℕ → Option ℕ → Bool
is_on (Some order) (Some other) = order == other
is_on order other = false
