-- What an exchange says of an order, as a desk is told, and what the desk's book makes of it, by a log alone (FIX 4.4
-- Volume 4, ExecutionReport).
use Rattle.std.specs.Prelude.{ℕ, Bool, ◌&&◌, ◌||◌, List, Option, Some, None, Result, Ok, Err, codes, is_some, slice_get, nat_le, nat_lt, false, if◌then◌else◌}
use Rattle.std.specs.Str.{bytes_eq}
use Rattle.fix_text.specs.Tagged.{Tagged}
use Rattle.fix_text.specs.Then.{◌>>=◌}
use Rattle.fix_tags.specs.Body.{Body}
use Rattle.fix_tags.specs.declared.body.Body.TheVariants.{Session, App}
use Rattle.fix_tags.specs.declared.envelope.Envelope.{Envelope}
use Rattle.fix_tags.specs.declared.session_body.SessionBody.{SessionBody}
use Rattle.fix_tags.specs.declared.session_body.SessionBody.TheVariants as session
use Rattle.dialect.specs.Fields.{required_as}
use Rattle.dialect.specs.FreeText.{free_text_of}
use Rattle.dialect.specs.ReportRead.{kind_in}
use Rattle.dialect.specs.declared.fault.DialectFault.{DialectFault}
use Rattle.dialect.specs.declared.report.ReportKind.{ReportKind}
use Rattle.dialect.specs.declared.report.ReportKind.TheVariants.{Trade, Bust}
use Rattle.desk_executions.specs.declared.untaken.Untaken.{Untaken}
use Rattle.desk_executions.specs.declared.untaken.Untaken.TheVariants as untaken
use Rattle.report_words.specs.Words.{first_of, said}
use Rattle.log_rules.specs.KeptReport.{ReportParts}
use Rattle.log_rules.specs.Ledger.{comes_again, newest_order, newest_under, shares_of_exec}
use Rattle.log_rules.specs.Order.{OrderParts}
use Rattle.log_rules.specs.Standing.{is_due}
use Rattle.log_legs.specs.KeptLeg.{LegParts, is_gone}
use Rattle.log_legs.specs.Legs.{LegsParts, WatchParts, is_withdrawn_at}
use Rattle.log_legs.specs.Parts.{ShareParts}
use Rattle.log_legs.specs.Sweeps.{leg_id_in}
use Rattle.log_legs.specs.declared.execution.Execution.{Execution}
use Rattle.log_legs.specs.declared.execution.Said.{Said}
use Rattle.log_legs.specs.declared.execution.Said.TheVariants.{Report, Refused, Unread}
use Rattle.log_legs.specs.declared.report_note.FieldWords.{FieldWords}
use Rattle.log_legs.specs.declared.report_note.ReportNote.{ReportNote}

-- an id is that of an order that was sent, or a leg's number in the spelling of a dialect
abbrev pub is_named : List OrderParts → List ℕ → Bool
is_named orders id = is_some (newest_order orders id) || is_some (leg_id_in id)

abbrev pub named_id : List OrderParts → List ℕ → Option (List ℕ)
named_id orders id = if is_named orders id then Some id else None

-- a report as a desk reads it, or its first fault: 11, 17, 150, and then what the kind needs
unfoldable pub report_in : List OrderParts → List Tagged → Result ReportNote DialectFault
report_in orders fields = do
  id ← required_as (named_id orders) fields 11
  exec ← required_as (free_text_of 64) fields 17
  kind ← kind_in fields
  Ok (record { id = id; exec = exec; kind = kind })

-- what a report that can't be read says of its order
abbrev pub words_in : List Tagged → FieldWords
words_in fields = record {
  id = first_of 64 (said fields 11);
  kind = first_of 8 (said fields 150);
  shares = first_of 24 (said fields 32);
  price = first_of 32 (said fields 31);
}

-- a bust of the trade of so many shares, if its report came on the order: the book takes it if so many are filled
abbrev pub bust_untaken : Option ℕ → ShareParts → Option Untaken
bust_untaken None p = Some untaken.Stray
bust_untaken (Some shares) p = if nat_lt 0 shares && nat_le shares p.filled then None else Some untaken.Stray

-- why the book doesn't take a report on an order of these shares, which stands at this place
abbrev pub kind_untaken : List ReportParts → ℕ → ReportKind → ShareParts → Option Untaken
kind_untaken reports place (Trade fill) p = if nat_le fill.shares p.still_open then None else Some untaken.Overfill
kind_untaken reports place (Bust undone) p = bust_untaken (shares_of_exec undone (Some place) reports) p
kind_untaken reports place kind p = None

-- the order at a place, where the orders are kept
abbrev pub leg_at : Option LegsParts → ℕ → Option LegParts
leg_at None place = None
leg_at (Some l) place = slice_get l.legs place

-- whether the order at a place is withdrawn
abbrev pub gone_in : Bool → Option LegParts → Bool
gone_in is_withdrawn None = false
gone_in is_withdrawn (Some leg) = is_gone is_withdrawn leg

abbrev pub is_gone_at : WatchParts → ℕ → Bool
is_gone_at w place = gone_in (is_withdrawn_at w.checker.ledger.orders place) (leg_at w.legs place)

abbrev pub moving_untaken : List ReportParts → ℕ → ReportKind → Option LegParts → Option Untaken
moving_untaken reports place kind None = None
moving_untaken reports place kind (Some leg) = kind_untaken reports place kind leg.parts

-- the book's tests of a report on an order, in their order: its ExecID (17) came before, the order is withdrawn, and
-- what the kind asks
abbrev pub untaken_at : WatchParts → ℕ → ReportNote → ℕ → Option Untaken
untaken_at w number note place =
    if comes_again note.exec number w.checker.ledger.reports then Some untaken.Duplicate
    else (if is_gone_at w place then Some untaken.Stray
    else moving_untaken w.checker.ledger.reports place note.kind (leg_at w.legs place))

-- why the book doesn't take a report under a number, on the order at a place: on none it is a stray
abbrev pub report_untaken : WatchParts → ℕ → ReportNote → Option ℕ → Option Untaken
report_untaken w number note None = Some untaken.Stray
report_untaken w number note (Some place) = untaken_at w number note place

-- what is told of the fields of a report under a number
abbrev pub report_told : WatchParts → ℕ → List Tagged → Result ReportNote DialectFault → Execution
report_told w number fields (Err fault) =
    record { said = Unread fault (words_in fields); untaken = Some untaken.Unread }
report_told w number fields (Ok note) = record {
  said = Report note;
  untaken = report_untaken w number note (newest_order w.checker.ledger.orders note.id);
}

-- a refusal of an order: the book takes it unless the order is withdrawn
abbrev pub refusal_with : Bool → Option OrderParts → Option Execution
refusal_with is_gone None = None
refusal_with is_gone (Some o) =
    Some (record { said = Refused o.id; untaken = if is_gone then Some untaken.Stray else None })

abbrev pub refusal_told : WatchParts → Option ℕ → Option Execution
refusal_told w None = None
refusal_told w (Some place) = refusal_with (is_gone_at w place) (slice_get w.checker.ledger.orders place)

-- the refusal of the message under a number (45) is told where that was an order
abbrev pub refused_under : WatchParts → ℕ → Option Execution
refused_under w order = refusal_told w (newest_under w.checker.ledger.orders order)

abbrev pub session_told : WatchParts → SessionBody → Option Execution
session_told w (session.Reject order) = refused_under w order
session_told w (session.BusinessReject (Some order)) = refused_under w order
session_told w _ = None

abbrev pub body_told : WatchParts → ℕ → Body → Option Execution
body_told w number (Session says) = session_told w says
body_told w number (App kind fields) =
    if bytes_eq kind (codes "8")
    then Some (report_told w number fields (report_in w.checker.ledger.orders fields))
    else None

-- what a message of the exchange says of an order, and what the book makes of it: it has to be the next that counts
abbrev pub execution_of : WatchParts → Envelope → Option Execution
execution_of w message =
    if is_due w.checker.standing.counted message.number then body_told w message.number message.body else None
