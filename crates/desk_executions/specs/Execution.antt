-- An execution, in words.
use Rattle.std.specs.Prelude.{ℕ, List, Option, Some, None, ◌++◌, codes, decimal}
use Rattle.leg.specs.LegId.{leg_id_text}
use Rattle.dialect.specs.declared.fault.DialectFault.{DialectFault}
use Rattle.dialect.specs.declared.fault.DialectFault.TheVariants.{Missing, Bad, NotMarked, NotIoc}
use Rattle.dialect.specs.declared.note.Note.{Note}
use Rattle.dialect.specs.declared.note.Note.TheVariants as note
use Rattle.dialect.specs.declared.report.ReportKind.{ReportKind}
use Rattle.dialect.specs.declared.report.ReportKind.TheVariants.{New, Trade, Canceled, Rejected, Expired, Bust}
use Rattle.desk_words.specs.Printable.{shown}
use Rattle.report_words.specs.declared.report_words.ReportWords.{ReportWords}
use Rattle.desk_executions.specs.declared.execution.Execution.{Execution}
use Rattle.desk_executions.specs.declared.untaken.Untaken.{Untaken}
use Rattle.desk_executions.specs.Untaken.{untaken, untaken_text}
use Rattle.desk_executions.specs.Words.{beside_text, fields_text}

-- what a report says, as `new`, `fill 60 at 10.25` or `bust of E2`. A byte of an id or a price is shown as at most
-- four, so that there is room for 64 and 20 of them
abbrev pub kind_text : ReportKind → List ℕ
kind_text New = codes "new"
kind_text (Trade fill) = codes "fill " ++ decimal fill.shares ++ codes " at " ++ shown 80 fill.px
kind_text Canceled = codes "cancelled"
kind_text Rejected = codes "rejected"
kind_text Expired = codes "expired"
kind_text (Bust cancelled_id) = codes "bust of " ++ shown 256 cancelled_id

-- why a report can't be read
abbrev pub fault_text : DialectFault → List ℕ
fault_text (Missing tag) = codes "V01 missing tag " ++ decimal tag
fault_text (Bad tag) = codes "V02 bad value of tag " ++ decimal tag
fault_text NotMarked = codes "V03 not marked"
fault_text NotIoc = codes "V04 not immediate or cancel"

-- what an exchange said, as `S1L1 fill 60 at 10.25 id E2`, `S1L2 refused` or `V02 bad value of tag 31 11=S1L1`
abbrev pub note_text : Note → ReportWords → List ℕ
note_text (note.Report report) words =
    leg_id_text report.id ++ codes " " ++ kind_text report.kind ++ codes " id " ++ shown 256 report.exec
note_text (note.Refused id) words = leg_id_text id ++ codes " refused"
note_text (note.Unread fault) words = fault_text fault ++ fields_text words

-- as `execution 2 NYSE S1L1 fill 60 at 10.25 id E2 order O1 time 20260314-09:30:00.123`
abbrev pub said_text : Execution → List ℕ
said_text execution =
    codes "execution " ++ decimal execution.number ++ codes " " ++ execution.venue ++ codes " "
    ++ note_text execution.note execution.words ++ beside_text execution.words

-- what is said of a note that wasn't taken, as `unbooked .. : overfill`
abbrev pub marked : Option Untaken → List ℕ → List ℕ
marked None said = said
marked (Some why) said = codes "unbooked " ++ said ++ codes ": " ++ untaken_text why

-- as `execution 2 NYSE S1L1 fill 60 at 10.25 id E2`, or where the book didn't take it as
-- `unbooked execution 9 NYSE S1L1 fill 300 at 10.25 id E9: overfill`
abbrev pub execution_text : Execution → List ℕ
execution_text execution = marked (untaken execution.note execution.answer) (said_text execution)
