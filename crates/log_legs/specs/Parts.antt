-- What became of an order's shares by the reports on it (FIX 4.4 Volume 4, ExecType, LastQty, ExecRefID).
use Rattle.std.specs.Prelude.{ℕ, ◌+◌, ◌-◌, ◌^◌, ◌<◌, Bool, ◌||◌, List, length, Option, Some, None, nat_le, nat_lt, if◌then◌else◌}
use Rattle.leg.specs.declared.totals.Totals.{Totals}
use Rattle.log_rules.specs.declared.report_said.Happening.{Happening}
use Rattle.log_rules.specs.declared.report_said.Happening.TheVariants as happening
use Rattle.log_rules.specs.declared.report_said.ReportSaid.{ReportSaid}
use Rattle.log_rules.specs.KeptReport.{ReportParts}
use Rattle.log_rules.specs.Ledger.{comes_again, shares_of_exec}
use Rattle.log_legs.specs.declared.share_move.Move.{Move}
use Rattle.log_legs.specs.declared.share_move.Move.TheVariants.{Tells, Trades, Ends, Busts}

pub record ShareParts : Type 0 where
  pub filled : ℕ
  pub busted : ℕ
  pub cancelled : ℕ
  pub still_open : ℕ

-- the shares of the order
abbrev pub parts_sum : ShareParts → ℕ
parts_sum p = p.filled + p.busted + p.cancelled + p.still_open

-- the sum is one of 64 bits
pub record IsParts (p : ShareParts) : Type 0 where
  pub small : parts_sum p < 2 ^ 64

abbrev pub all_open : ℕ → ShareParts
all_open shares = record { filled = 0; busted = 0; cancelled = 0; still_open = shares }

-- a trade moves open shares to the filled ones, where so many are open
abbrev pub traded : ℕ → ShareParts → ShareParts
traded n p =
    if nat_le n p.still_open then record p { filled = p.filled + n; still_open = p.still_open - n } else p

-- a bust moves filled shares to the busted ones, where so many are filled
abbrev pub busted : ℕ → ShareParts → ShareParts
busted n p = if nat_le n p.filled then record p { filled = p.filled - n; busted = p.busted + n } else p

-- the end of the order cancels what is open
abbrev pub ended : ShareParts → ShareParts
ended p = record p { cancelled = p.cancelled + p.still_open; still_open = 0 }

abbrev pub moved : Move → ShareParts → ShareParts
moved Tells p = p
moved (Trades n) p = traded n p
moved Ends p = ended p
moved (Busts n) p = busted n p

-- a bust of the trade of so many shares, if its report came
abbrev pub bust_move : Option ℕ → Move
bust_move None = Tells
bust_move (Some shares) = Busts shares

-- what happened does to the shares of an order, which stands at this place
abbrev pub move_by : List ReportParts → ℕ → Happening → Move
move_by reports place (happening.Trade shares) = Trades shares
move_by reports place happening.Ended = Ends
move_by reports place (happening.Bust undone) = bust_move (shares_of_exec undone (Some place) reports)
move_by reports place happening.New = Tells
move_by reports place happening.Other = Tells
move_by reports place happening.Unknown = Tells

-- a desk takes no report whose ExecID (17) has more than 64 bytes, or came before under another number
abbrev pub is_dropped : List ReportParts → ℕ → List ℕ → Bool
is_dropped reports number exec = nat_lt 64 (length exec) || comes_again exec number reports

-- what a report under a number does to the shares of its order, which stands at this place
abbrev pub move_of : List ReportParts → ℕ → ℕ → ReportSaid → Move
move_of reports place number said =
    if is_dropped reports number said.exec then Tells else move_by reports place said.happened

-- the five parts of the shares: of a withdrawn order what is open is withdrawn
abbrev pub totals_of : Bool → ShareParts → Totals
totals_of is_withdrawn p = record {
  filled = p.filled;
  busted = p.busted;
  cancelled = p.cancelled;
  withdrawn = if is_withdrawn then p.still_open else 0;
  still_open = if is_withdrawn then 0 else p.still_open;
}
