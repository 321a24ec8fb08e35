-- What is known behind the lines of a venue's log.
use Rattle.std.specs.Prelude.{ℕ, Bool, false, List, [], ◌∷◌, length, suc, replicate, Some, None, Result, Ok, Err, if◌then◌else◌}
use Rattle.log_legs.specs.Legs.{no_legs}
use Rattle.log_rules.specs.declared.tally.Tally.{Tally}
use Rattle.log_text.specs.Line.{is_passed_over}
use Rattle.log_text.specs.declared.fault.LineFault.{LineFault}
use Rattle.day_rules.specs.VenueDay.{VenueParts, new_venue}
use Rattle.day_check.specs.ExecutionText.{counted_if, no_executions}
use Rattle.day_check.specs.Head.{own_after}
use Rattle.day_check.specs.Judge.{Told, judged, judged_after, line_entry}
use Rattle.day_check.specs.LineTold.{asked_execution}
use Rattle.day_check.specs.Tallies.{tallied_upto}
use Rattle.day_check.specs.declared.execution_counts.ExecutionCounts.{ExecutionCounts}
use Rattle.day_check.specs.declared.form.Form.{Form}

-- what its messages say together, how often each rule was held and broken, whether its first line is the head that this
-- program writes, and how many executions were told
pub record LogParts : Type 0 where
  pub day : VenueParts
  pub tallies : List Tally
  pub is_own : Bool
  pub executions : ExecutionCounts

abbrev pub no_tally : Tally
no_tally = record { held = 0; broken = 0; again = 0 }

-- before any line; the orders are kept where they are asked for
abbrev pub new_day : Bool → VenueParts
new_day keeps = if keeps then new_venue (Some no_legs) else new_venue None

abbrev pub new_log : Bool → LogParts
new_log keeps = record {
  day = new_day keeps;
  tallies = replicate 22 no_tally;
  is_own = false;
  executions = no_executions;
}

-- behind the line of a number, of which this is judged
abbrev pub entry_checked : ℕ → Result Told LineFault → LogParts → LogParts
entry_checked number (Err fault) log = log
entry_checked number (Ok entry) log = record {
  day = judged_after number log.day entry;
  tallies = tallied_upto 22 (judged log.day entry) log.tallies;
  is_own = log.is_own;
  executions = log.executions;
}

abbrev pub with_head : ℕ → List ℕ → LogParts → LogParts
with_head number line log = record log { is_own = own_after number line log.is_own }

-- with the execution of a line, where executions are told
abbrev pub with_execution : Bool → Form → List ℕ → LogParts → LogParts
with_execution tells form line log =
    record log { executions = counted_if (asked_execution tells form line log.day.watch) log.executions }

-- behind the line of a number
abbrev pub line_checked : Form → Bool → ℕ → List ℕ → LogParts → LogParts
line_checked form tells number line log =
    if is_passed_over line then with_head number line log
    else entry_checked number (line_entry form line) (with_execution tells form line (with_head number line log))

-- behind these lines, of which the last one stands first
abbrev pub log_checked : Form → Bool → Bool → List (List ℕ) → LogParts
log_checked form tells keeps [] = new_log keeps
log_checked form tells keeps (line ∷ earlier) =
    line_checked form tells (suc (length earlier)) line (log_checked form tells keeps earlier)
