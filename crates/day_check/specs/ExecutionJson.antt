-- An execution in JSON.
use Rattle.std.specs.Prelude.{ℕ, List, [], ◌∷◌, ◌++◌, codes, Option, Some, None}
use Rattle.desk_executions.specs.Execution.{fault_text}
use Rattle.desk_executions.specs.Untaken.{untaken_text}
use Rattle.desk_executions.specs.Words.{where_said, words_text}
use Rattle.desk_executions.specs.declared.untaken.Untaken.{Untaken}
use Rattle.desk_words.specs.Printable.{shown}
use Rattle.dialect.specs.declared.fault.DialectFault.{DialectFault}
use Rattle.dialect.specs.declared.report.ReportKind.{ReportKind}
use Rattle.dialect.specs.declared.report.ReportKind.TheVariants.{New, Trade, Canceled, Rejected, Expired, Bust}
use Rattle.message_log.specs.Line.{logged}
use Rattle.report_words.specs.Words.{Words}
use Rattle.log_legs.specs.declared.execution.Execution.{Execution}
use Rattle.log_legs.specs.declared.execution.Said.{Said}
use Rattle.log_legs.specs.declared.execution.Said.TheVariants as said
use Rattle.log_legs.specs.declared.report_note.FieldWords.{FieldWords}
use Rattle.log_legs.specs.declared.report_note.ReportNote.{ReportNote}
use Rattle.day_check.specs.Json.{json_string, json_value}
use Rattle.day_check.specs.ToldFault.{text_member}
use Rattle.day_check.specs.declared.json.Value.TheVariants.{Number}

-- a member behind others
abbrev pub text_after : List ℕ → List ℕ → List ℕ
text_after name said = 44 ∷ text_member name said

abbrev pub number_after : List ℕ → ℕ → List ℕ
number_after name number = 44 ∷ json_string name ++ 58 ∷ json_value (Number number)

-- that the trade whose report had this id is undone
abbrev pub bust_json : List ℕ → List ℕ
bust_json undone = text_after (codes "kind") (codes "bust") ++ text_after (codes "of") (shown 256 undone)

-- what happened, as `,"kind":"fill","shares":60,"price":"10.25"`
abbrev pub kind_json : ReportKind → List ℕ
kind_json New = text_after (codes "kind") (codes "new")
kind_json (Trade fill) =
    text_after (codes "kind") (codes "fill") ++ number_after (codes "shares") fill.shares
    ++ text_after (codes "price") (shown 80 fill.px)
kind_json Canceled = text_after (codes "kind") (codes "cancelled")
kind_json Rejected = text_after (codes "kind") (codes "rejected")
kind_json Expired = text_after (codes "kind") (codes "expired")
kind_json (Bust undone) = bust_json undone

-- a report, as `,"leg":"S1L1","kind":"fill","shares":60,"price":"10.25","exec":"E2"`
abbrev pub note_json : ReportNote → List ℕ
note_json note =
    text_after (codes "leg") (logged note.id) ++ kind_json note.kind ++ text_after (codes "exec") (shown 256 note.exec)

abbrev pub refused_json : List ℕ → List ℕ
refused_json id = text_after (codes "leg") (logged id) ++ text_after (codes "kind") (codes "refused")

-- what a field says, where it is there
abbrev pub words_json : List ℕ → Words → List ℕ
words_json name words = where_said words (text_after name (words_text words))

-- why a report can't be read
abbrev pub why_json : DialectFault → List ℕ
why_json fault = text_after (codes "fault") (fault_text fault)

-- what a report that can't be read says of its order
unfoldable pub fields_json : FieldWords → List ℕ
fields_json words =
    words_json (codes "tag_11") words.id ++ words_json (codes "tag_150") words.kind
    ++ words_json (codes "tag_32") words.shares ++ words_json (codes "tag_31") words.price

unfoldable pub unread_json : DialectFault → FieldWords → List ℕ
unread_json fault words = text_after (codes "kind") (codes "unread") ++ why_json fault ++ fields_json words

abbrev pub said_json : Said → List ℕ
said_json (said.Report note) = note_json note
said_json (said.Refused id) = refused_json id
said_json (said.Unread fault words) = unread_json fault words

abbrev pub untaken_json : Option Untaken → List ℕ
untaken_json None = []
untaken_json (Some why) = text_after (codes "unbooked") (untaken_text why)

-- in the line of a number of the log of this path
abbrev pub execution_json : List ℕ → ℕ → Execution → List ℕ
execution_json path number e =
    123 ∷ text_member (codes "log") path ++ number_after (codes "line") number ++ said_json e.said
    ++ untaken_json e.untaken ++ codes "}\n"
