-- Executions, in JSON.
use Rattle.std.specs.Prelude.{ℕ, List, [], ◌++◌, Option, Some, None, codes, decimal}
use Rattle.json.specs.Print.{quoted}
use Rattle.leg.specs.LegId.{LegIdParts, leg_id_text}
use Rattle.dialect.specs.Fill.{FillParts}
use Rattle.dialect.specs.declared.note.Note.{Note}
use Rattle.dialect.specs.declared.note.Note.TheVariants as note
use Rattle.dialect.specs.declared.report.Report.{Report}
use Rattle.dialect.specs.declared.report.ReportKind.{ReportKind}
use Rattle.dialect.specs.declared.report.ReportKind.TheVariants.{New, Trade, Canceled, Rejected, Expired, Bust}
use Rattle.desk_words.specs.Printable.{shown}
use Rattle.desk_executions.specs.declared.execution.Execution.{Execution}
use Rattle.desk_executions.specs.declared.untaken.Untaken.{Untaken}
use Rattle.desk_executions.specs.declared.counts.UnbookedCounts.{UnbookedCounts}
use Rattle.desk_executions.specs.Execution.{fault_text}
use Rattle.desk_executions.specs.Untaken.{untaken, untaken_text}
use Rattle.dialect.specs.declared.fault.DialectFault.{DialectFault}
use Rattle.desk_json.specs.declared.standing.ExecutionsPage.{ExecutionsPage}
use Rattle.desk_json.specs.Parted.{parted}
use Rattle.desk_json.specs.Words.{beside_json, fields_json}
use Rattle.report_words.specs.declared.report_words.ReportWords.{ReportWords}

-- a trade, with its price as the exchange wrote it
abbrev pub fill_json : FillParts → List ℕ
fill_json fill =
    codes "\"kind\":\"fill\",\"shares\":" ++ decimal fill.shares ++ codes ",\"price\":" ++ quoted (shown 80 fill.px)

-- that the trade whose report had this id is undone
abbrev pub bust_json : List ℕ → List ℕ
bust_json trade = codes "\"kind\":\"bust\",\"of\":" ++ quoted (shown 256 trade)

-- what a report says
abbrev pub kind_json : ReportKind → List ℕ
kind_json New = codes "\"kind\":\"new\""
kind_json (Trade fill) = fill_json fill
kind_json Canceled = codes "\"kind\":\"cancelled\""
kind_json Rejected = codes "\"kind\":\"rejected\""
kind_json Expired = codes "\"kind\":\"expired\""
kind_json (Bust cancelled_id) = bust_json cancelled_id

-- a leg, with the number of its sweep
abbrev pub leg_keys : LegIdParts → List ℕ
leg_keys id = codes "\"sweep\":" ++ decimal id.sweep ++ codes ",\"leg\":\"" ++ leg_id_text id ++ codes "\","

-- a report, as `"sweep":1,"leg":"S1L1","kind":"fill","shares":60,"price":"10.25","exec":"E2"`
abbrev pub report_json : Report → List ℕ
report_json report =
    leg_keys report.id ++ kind_json report.kind ++ codes ",\"exec\":" ++ quoted (shown 256 report.exec)

-- that the order of a leg was refused
abbrev pub refused_json : LegIdParts → List ℕ
refused_json id = leg_keys id ++ codes "\"kind\":\"refused\""

-- that a report can't be read, and why, with what it says of its order
abbrev pub unread_json : DialectFault → ReportWords → List ℕ
unread_json fault words =
    codes "\"kind\":\"unread\",\"fault\":\"" ++ fault_text fault ++ codes "\"" ++ fields_json words

-- what an exchange said
abbrev pub note_json : Note → ReportWords → List ℕ
note_json (note.Report report) words = report_json report
note_json (note.Refused id) words = refused_json id
note_json (note.Unread fault) words = unread_json fault words

-- that, with what it says beside it
unfoldable pub said_json : Note → ReportWords → List ℕ
said_json note words = note_json note words ++ beside_json words

-- why the book didn't take it, as it stands in an object: nothing where it did
abbrev pub untaken_json : Option Untaken → List ℕ
untaken_json None = []
untaken_json (Some why) = codes ",\"unbooked\":\"" ++ untaken_text why ++ codes "\""

-- as `{"execution":2,"venue":"NYSE","sweep":1,"leg":"S1L1","kind":"fill","shares":60,"price":"10.25","exec":"E2"}`,
-- with what is said beside it, and with `"unbooked":"overfill"` at its end where the book didn't take it
abbrev pub execution_json : Execution → List ℕ
execution_json execution =
    codes "{\"execution\":" ++ decimal execution.number ++ codes ",\"venue\":\"" ++ execution.venue ++ codes "\","
    ++ said_json execution.note execution.words
    ++ untaken_json (untaken execution.note execution.answer) ++ codes "}"

-- how many notes of a venue weren't taken, as `{"duplicate":0,"overfill":1,"stray":2,"unread":0}`
unfoldable pub unbooked_json : UnbookedCounts → List ℕ
unbooked_json counts =
    codes "{\"duplicate\":" ++ decimal counts.duplicates ++ codes ",\"overfill\":" ++ decimal counts.overfills
    ++ codes ",\"stray\":" ++ decimal counts.strays ++ codes ",\"unread\":" ++ decimal counts.unread ++ codes "}"

-- as `{"executions":[..],"last":5}`
abbrev pub executions_json : ExecutionsPage → List ℕ
executions_json page =
    codes "{\"executions\":[" ++ parted execution_json [] page.executions.items ++ codes "],\"last\":"
    ++ decimal page.last ++ codes "}"
