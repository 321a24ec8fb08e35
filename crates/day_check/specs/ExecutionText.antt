-- What is printed of an execution, and how many there were.
use Rattle.std.specs.Prelude.{ℕ, Bool, List, [], ◌∷◌, ◌++◌, codes, decimal, Option, Some, None, option_map, if◌then◌else◌}
use Rattle.desk_executions.specs.Execution.{fault_text, kind_text, marked}
use Rattle.desk_executions.specs.Untaken.{untaken_text}
use Rattle.desk_executions.specs.Words.{field_text}
use Rattle.desk_executions.specs.declared.untaken.Untaken.{Untaken}
use Rattle.desk_executions.specs.declared.untaken.Untaken.TheVariants.{Duplicate, Overfill, Stray, Unread}
use Rattle.desk_words.specs.Printable.{shown}
use Rattle.message_log.specs.Line.{logged}
use Rattle.log_legs.specs.declared.execution.Execution.{Execution}
use Rattle.log_legs.specs.declared.execution.Said.{Said}
use Rattle.log_legs.specs.declared.execution.Said.TheVariants as said
use Rattle.log_legs.specs.declared.report_note.FieldWords.{FieldWords}
use Rattle.log_legs.specs.declared.report_note.ReportNote.{ReportNote}
use Rattle.log_rules.specs.Verdict.{one_more}
use Rattle.day_check.specs.declared.execution_counts.ExecutionCounts.{ExecutionCounts}

-- what a report says that can't be read, as ` 11=S1L1 150=2 32=60 31=10.25`
abbrev pub words_shown : FieldWords → List ℕ
words_shown words =
    field_text 11 words.id ++ field_text 150 words.kind ++ field_text 32 words.shares ++ field_text 31 words.price

-- a report, as `S1L1 fill 60 at 10.25 id E2`
abbrev pub note_shown : ReportNote → List ℕ
note_shown note = logged note.id ++ codes " " ++ kind_text note.kind ++ codes " id " ++ shown 256 note.exec

-- what an exchange says of an order, as `dispatch run` tells it
abbrev pub said_shown : Said → List ℕ
said_shown (said.Report note) = note_shown note
said_shown (said.Refused id) = logged id ++ codes " refused"
said_shown (said.Unread fault words) = fault_text fault ++ words_shown words

-- as `execution S1L1 fill 60 at 10.25 id E2`, or as `unbooked execution S1L1 fill 300 at 10.25 id E9: overfill`
abbrev pub execution_line : Execution → List ℕ
execution_line e = marked e.untaken (codes "execution " ++ said_shown e.said) ++ 10 ∷ []

-- what is said behind one that isn't taken
abbrev pub why_shown : Untaken → List ℕ
why_shown why = codes ": " ++ untaken_text why ++ 10 ∷ []

abbrev pub execution_if : Option Execution → List ℕ
execution_if None = []
execution_if (Some e) = execution_line e

-- before any execution
abbrev pub no_executions : ExecutionCounts
no_executions = record { all = 0; duplicates = 0; overfills = 0; strays = 0; unread = 0 }

abbrev pub counted_untaken : Option Untaken → ExecutionCounts → ExecutionCounts
counted_untaken None counts = counts
counted_untaken (Some Duplicate) counts = record counts { duplicates = one_more counts.duplicates }
counted_untaken (Some Overfill) counts = record counts { overfills = one_more counts.overfills }
counted_untaken (Some Stray) counts = record counts { strays = one_more counts.strays }
counted_untaken (Some Unread) counts = record counts { unread = one_more counts.unread }

-- with one more execution, of which this is the answer
abbrev pub counted : Option Untaken → ExecutionCounts → ExecutionCounts
counted untaken counts = counted_untaken untaken (record counts { all = one_more counts.all })

-- the answer of the book to an execution, if there is one
abbrev pub answer_to : Option Execution → Option (Option Untaken)
answer_to execution = option_map (λ (e : Execution). e.untaken) execution

abbrev pub counted_answer : Option (Option Untaken) → ExecutionCounts → ExecutionCounts
counted_answer None counts = counts
counted_answer (Some untaken) counts = counted untaken counts

-- with the execution of a line, if it tells one
abbrev pub counted_if : Option Execution → ExecutionCounts → ExecutionCounts
counted_if execution counts = counted_answer (answer_to execution) counts

-- as ` duplicate 0 overfill 1 stray 0 unread 0`
unfoldable pub untaken_counts : ExecutionCounts → List ℕ
untaken_counts counts =
    codes " duplicate " ++ decimal counts.duplicates ++ codes " overfill " ++ decimal counts.overfills
    ++ codes " stray " ++ decimal counts.strays ++ codes " unread " ++ decimal counts.unread

-- as `executions 12 duplicate 0 overfill 1 stray 0 unread 0`
abbrev pub counts_text : ExecutionCounts → List ℕ
counts_text counts = codes "executions " ++ decimal counts.all ++ untaken_counts counts

abbrev pub counts_line : ExecutionCounts → List ℕ
counts_line counts = counts_text counts ++ 10 ∷ []

abbrev pub counts_if : Bool → ExecutionCounts → List ℕ
counts_if tells counts = if tells then counts_line counts else []
