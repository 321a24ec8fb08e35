-- What is printed of a venue's log.
use Rattle.std.specs.Prelude.{◌≡◌, ℕ, zero, suc, Bool, true, false, List, [], ◌∷◌, ◌++◌, length, codes, decimal, Option, Result, Ok, Err, if◌then◌else◌}
use Rattle.std.specs.Io.KnownBytes.{Appends}
use Rattle.log_legs.specs.LegLine.{legs_text}
use Rattle.log_rules.specs.Checker.{CheckerParts}
use Rattle.log_rules.specs.Ledger.{uncounted_of}
use Rattle.log_text.specs.Line.{is_passed_over}
use Rattle.log_text.specs.declared.fault.LineFault.{LineFault}
use Rattle.day_rules.specs.VenueDay.{VenueParts}
use Rattle.day_check.specs.ExecutionText.{counts_if, execution_if}
use Rattle.day_check.specs.Finding.{findings_upto, summary_upto}
use Rattle.day_check.specs.Judge.{Told, judged, line_entry}
use Rattle.day_check.specs.LineTold.{asked_execution}
use Rattle.day_check.specs.Lines.{AreCutLines}
use Rattle.day_check.specs.LogChecked.{LogParts, log_checked}
use Rattle.day_check.specs.Tallies.{breaks_a_rule}
use Rattle.day_check.specs.declared.finding.Printing.{Printing}
use Rattle.day_check.specs.declared.form.Form.{Form}
use Rattle.day_check.specs.declared.checked_log.CheckedLog.{CheckedLog}
use Rattle.day_check.specs.declared.rule_words.RuleWords.{RuleWords}

-- how a log is told: the words of the rules, how its lines are written, whether it is told what became of each leg,
-- whether each execution is told, and whether orders are kept
pub record Style : Type 0 where
  pub words : List RuleWords
  pub form : Form
  pub tells_legs : Bool
  pub tells_executions : Bool
  pub keeps_legs : Bool

abbrev pub style_of : Printing → Style
style_of p = record {
  words = p.words.now;
  form = p.form.now;
  tells_legs = p.tells_legs;
  tells_executions = p.tells_executions;
  keeps_legs = p.keeps_legs;
}

-- the findings of the line of a number, of which this is judged
abbrev pub entry_findings : Style → ℕ → List ℕ → Result Told LineFault → VenueParts → List ℕ
entry_findings s number line (Err fault) day = []
entry_findings s number line (Ok entry) day = findings_upto s.words s.form number line (judged day entry) 22

-- what the line of a number says of an order, where that is asked for, and its findings
abbrev pub line_findings : Style → ℕ → List ℕ → VenueParts → List ℕ
line_findings s number line day =
    if is_passed_over line then []
    else execution_if (asked_execution s.tells_executions s.form line day.watch)
    ++ entry_findings s number line (line_entry s.form line) day

-- what is known behind these lines, of which the last one stands first
abbrev pub checked : Style → List (List ℕ) → LogParts
checked s lines = log_checked s.form s.tells_executions s.keeps_legs lines

-- the executions and the findings of these lines
abbrev pub findings : Style → List (List ℕ) → List ℕ
findings s [] = []
findings s (line ∷ earlier) =
    findings s earlier ++ line_findings s (suc (length earlier)) line (checked s earlier).day

abbrev pub path_line : List ℕ → List ℕ
path_line path = codes "log " ++ path ++ 10 ∷ []

abbrev pub legs_if : Bool → VenueParts → List ℕ
legs_if tells day = if tells then legs_text day.watch else []

-- how many reports weren't counted, where there are some
abbrev pub uncounted_text : ℕ → List ℕ
uncounted_text zero = []
uncounted_text (suc n) = codes "reports not counted " ++ decimal (suc n) ++ 10 ∷ []

abbrev pub uncounted_in : CheckerParts → List ℕ
uncounted_in c = uncounted_text (uncounted_of c.standing.counted c.ledger.reports)

-- a note where a log ends within a line
abbrev pub cut_text : Bool → List ℕ
cut_text false = []
cut_text true = codes "note what stands behind the last line feed is no line, and isn't judged\n"

-- the note, a line for each rule, the reports that weren't counted, and where it is asked for how many executions there
-- were, and what became of the orders
abbrev pub log_end : Style → Bool → LogParts → List ℕ
log_end s is_cut log =
    cut_text is_cut ++ summary_upto s.words log.tallies 22 ++ uncounted_in log.day.watch.checker
    ++ counts_if s.tells_executions log.executions ++ legs_if s.tells_legs log.day

-- the log's path, its executions and findings, a note where it is cut, a line for each rule, and what became of the
-- orders
abbrev pub log_text : Style → List ℕ → List (List ℕ) → Bool → List ℕ
log_text s path lines is_cut = path_line path ++ findings s lines ++ log_end s is_cut (checked s lines)

-- some lines were read of the log, and this is what they say; and where text is printed, it is theirs
pub record ChecksLog (p : Printing) (input before after : Option (List ℕ)) (log : CheckedLog) : Type 0 where
  pub lines : List (List ℕ)
  pub is_cut : Bool
  pub read : AreCutLines input lines is_cut
  pub day : log.day ≡ (checked (style_of p) lines).day
  pub broken : log.is_broken ≡ breaks_a_rule (checked (style_of p) lines).tallies
  pub own : log.is_own ≡ (checked (style_of p) lines).is_own
  pub printed : p.is_json ≡ false → Appends before after (log_text (style_of p) p.log.now lines is_cut)
