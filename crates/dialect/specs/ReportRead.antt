-- What fields say that are read as a report (FIX 4.4 Volume 4, ExecutionReport).
use Rattle.std.specs.Prelude.{◌==◌, ◌||◌, Bool, ℕ, List, [], ◌∷◌, Result, Ok, Err, if◌then◌else◌}
use Rattle.fix_text.specs.Then.{◌>>=◌}
use Rattle.fix_text.specs.Tagged.{Tagged}
use Rattle.dialect.specs.declared.fault.DialectFault.{DialectFault}
use Rattle.dialect.specs.declared.fault.DialectFault.TheVariants.{Bad}
use Rattle.dialect.specs.declared.report.Report.{Report}
use Rattle.dialect.specs.declared.report.ReportKind.{ReportKind}
use Rattle.dialect.specs.declared.report.ReportKind.TheVariants.{New, Trade, Canceled, Rejected, Expired, Bust}
use Rattle.dialect.specs.Fields.{required, required_as}
use Rattle.dialect.specs.Fill.{FillParts}
use Rattle.dialect.specs.FreeText.{free_text_of}
use Rattle.dialect.specs.Limit.{order_shares_of}
use Rattle.dialect.specs.Spelling.{SpellingParts}

-- what was traded: 32 and then 31
unfoldable pub fill_in : List Tagged → Result FillParts DialectFault
fill_in fields = do
  shares ← required_as order_shares_of fields 32
  px ← required_as (free_text_of 20) fields 31
  Ok (record { shares = shares; px = px })

-- a trade, with what was traded
abbrev pub trade_in : List Tagged → Result ReportKind DialectFault
trade_in fields = fill_in fields >>= λ fill. Ok (Trade fill)

-- a bust, with the report that it undoes
abbrev pub bust_in : List Tagged → Result ReportKind DialectFault
bust_in fields = required_as (free_text_of 64) fields 19 >>= λ cancelled_id. Ok (Bust cancelled_id)

-- whether a byte of 150 tells the state of an order alone, and moves no share: `0` (new), `6` (pending cancel), `7`
-- (stopped), `9` (suspended), `A` (pending new), `B` (calculated) or `I` (order status)
abbrev pub tells_state : ℕ → Bool
tells_state c = c == 48 || c == 54 || c == 55 || c == 57 || c == 65 || c == 66 || c == 73

-- what happened by the byte of 150: one that tells the state, `F`, `4`, `8`, `C`, `3` (done for day, which ends an
-- order as `C` does) or `H`
abbrev pub kind_of_byte : List Tagged → ℕ → Result ReportKind DialectFault
kind_of_byte fields c =
    if tells_state c then Ok New else (
    if c == 70 then trade_in fields else (
    if c == 52 then Ok Canceled else (
    if c == 56 then Ok Rejected else (
    if c == 67 then Ok Expired else (
    if c == 51 then Ok Expired else (
    if c == 72 then bust_in fields else Err (Bad 150)))))))

-- what happened by the text of 150, which is one byte
abbrev pub kind_of_text : List Tagged → List ℕ → Result ReportKind DialectFault
kind_of_text fields [] = Err (Bad 150)
kind_of_text fields (c ∷ []) = kind_of_byte fields c
kind_of_text fields (c ∷ d ∷ ds) = Err (Bad 150)

-- what happened
abbrev pub kind_in : List Tagged → Result ReportKind DialectFault
kind_in fields = required fields 150 >>= kind_of_text fields

-- what is read: 11, 17, 150, and then what the kind needs
unfoldable pub report_read_of : SpellingParts → List Tagged → Result Report DialectFault
report_read_of s fields = do
  id ← required_as s.id_of fields 11
  exec ← required_as (free_text_of 64) fields 17
  kind ← kind_in fields
  Ok (record { id = id; exec = exec; kind = kind })
