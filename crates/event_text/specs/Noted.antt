-- A note and what the book did with it, in words.
use Rattle.std.specs.Prelude.{ℕ, List, ◌++◌, codes, decimal}
use Rattle.leg.specs.LegId.{leg_id_text}
use Rattle.dialect.specs.declared.fault.DialectFault.{DialectFault}
use Rattle.dialect.specs.declared.fault.DialectFault.TheVariants as fault
use Rattle.dialect.specs.declared.note.Note.{Note}
use Rattle.dialect.specs.declared.note.Note.TheVariants as note
use Rattle.dialect.specs.declared.report.Report.{Report}
use Rattle.dialect.specs.declared.report.ReportKind.{ReportKind}
use Rattle.dialect.specs.declared.report.ReportKind.TheVariants.{New, Trade, Canceled, Rejected, Expired, Bust}
use Rattle.share_ledger.specs.declared.applied.Applied.{Applied}
use Rattle.share_ledger.specs.declared.applied.Applied.TheVariants.{Moved, Duplicate, Overfill, Stray}

-- what a report says, as `60 shares at 10.25`; ids and prices as the exchange spelled them
abbrev pub kind_text : ReportKind → List ℕ
kind_text New = codes "new"
kind_text (Trade fill) = (decimal fill.shares ++ codes " shares at ") ++ fill.px
kind_text Canceled = codes "cancelled"
kind_text Rejected = codes "rejected"
kind_text Expired = codes "expired"
kind_text (Bust cancelled_id) = codes "bust of " ++ cancelled_id

-- a report on its leg, as `report E2 on S1L1`
abbrev pub head_text : Report → List ℕ
head_text report = (codes "report " ++ report.exec) ++ (codes " on " ++ leg_id_text report.id)

abbrev pub fault_text : DialectFault → List ℕ
fault_text (fault.Missing tag) = codes "V01 missing tag " ++ decimal tag
fault_text (fault.Bad tag) = codes "V02 bad value of tag " ++ decimal tag
fault_text fault.NotMarked = codes "V03 not marked"
fault_text fault.NotIoc = codes "V04 not immediate or cancel"

abbrev pub note_text : Note → List ℕ
note_text (note.Report report) = (head_text report ++ codes ": ") ++ kind_text report.kind
note_text (note.Refused id) = codes "refusal of " ++ leg_id_text id
note_text (note.Unread fault) = codes "report that can't be read: " ++ fault_text fault

abbrev pub answer_text : Applied → List ℕ
answer_text Moved = codes "booked"
answer_text Duplicate = codes "a duplicate"
answer_text Overfill = codes "an overfill"
answer_text Stray = codes "stray"

-- as `report E2 on S1L1: 60 shares at 10.25, booked`
abbrev pub noted_text : Note → Applied → List ℕ
noted_text note answer = (note_text note ++ codes ", ") ++ answer_text answer

-- a report that the exchange made, and had no connection to write into
abbrev pub kept_text : Report → List ℕ
kept_text report = (head_text report ++ codes " kept: ") ++ kind_text report.kind
