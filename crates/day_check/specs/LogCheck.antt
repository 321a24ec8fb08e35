-- A log that is checked.
use Rattle.std.specs.Prelude.{◌≡◌, ℕ, false, List, Option}
use Rattle.std.specs.Io.KnownBytes.{Appends}
use Rattle.day_check.specs.Lines.{AreCutLines}
use Rattle.day_check.specs.LogText.{checked, findings, style_of}
use Rattle.day_check.specs.declared.finding.Printing.{Printing}
use Rattle.day_check.specs.LogChecked.{LogParts}
use Rattle.day_check.specs.declared.log_check.LogCheck.{LogCheck}

abbrev pub log_parts : LogCheck → LogParts
log_parts log =
    record { day = log.day; tallies = log.tallies; is_own = log.is_own; executions = log.executions }

-- some lines were read, and this is the log behind them; and where text is printed, it is their findings
pub record ChecksLines (p : Printing) (input before after : Option (List ℕ)) (log : LogCheck) : Type 0 where
  pub lines : List (List ℕ)
  pub read : AreCutLines input lines log.is_cut
  pub parts : log_parts log ≡ checked (style_of p) lines
  pub printed : p.is_json ≡ false → Appends before after (findings (style_of p) lines)
