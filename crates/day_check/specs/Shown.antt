-- A line of a log as it is printed.
use Rattle.std.specs.Prelude.{ℕ, List}
use Rattle.message_log.specs.Line.{logged}
use Rattle.day_check.specs.declared.form.Form.{Form}
use Rattle.day_check.specs.declared.form.Form.TheVariants.{Own, Quickfix}

-- as it stands where it is this program's, else with its bytes as this program's logs have those of a message
abbrev pub line_shown : Form → List ℕ → List ℕ
line_shown Own line = line
line_shown (Quickfix desk) line = logged line
