-- The log of the lines that a desk took, line by line.
use Rattle.std.specs.Prelude.{◌≡◌, ℕ, suc, List, [], ◌∷◌, length, Option, Result, Ok, Err, if◌then◌else◌}
use Rattle.std.specs.Bool.{MatchBool}
use Rattle.day_rules.specs.DeskDay.{DeskParts, desk_heard}
use Rattle.log_rules.specs.Moment.{moment_of}
use Rattle.log_text.specs.Line.{LineSaid, is_passed_over, line_said}
use Rattle.log_text.specs.declared.fault.LineFault.{LineFault}
use Rattle.day_check.specs.Lines.{AreLines}
use Rattle.day_check.specs.declared.fault.LogFault.{LogFault}
use Rattle.day_check.specs.declared.fault.LogFault.TheVariants.{BadLine, OutOfMemory}

-- what is known behind the line of a number, which says this
abbrev pub HearsAs : ℕ → Result LineSaid LineFault → DeskParts → DeskParts → Type 0
HearsAs number (Ok said) old new = new ≡ desk_heard number (moment_of said.stamp) said.direction said.message old
HearsAs number (Err fault) old new = ⊥

-- what is known behind the line of a number: it is passed over, or heard
abbrev pub Hears : ℕ → List ℕ → DeskParts → DeskParts → Type 0
Hears number text old new = MatchBool (is_passed_over text) (new ≡ old) (HearsAs number (line_said text) old new)

-- a line that is at fault is named, with its fault; or memory is refused
abbrev pub NamesBad : ℕ → List ℕ → LogFault → Type 0
NamesBad number text (BadLine at fault) = (at ≡ number) × (line_said text ≡ Err fault)
NamesBad number text OutOfMemory = Unit {0}
NamesBad number text _ = ⊥

-- what is known behind the line of a number, which says this
abbrev pub said_heard : ℕ → Result LineSaid LineFault → DeskParts → DeskParts
said_heard number (Err fault) d = d
said_heard number (Ok said) d = desk_heard number (moment_of said.stamp) said.direction said.message d

abbrev pub line_heard : ℕ → List ℕ → DeskParts → DeskParts
line_heard number text d = if is_passed_over text then d else said_heard number (line_said text) d

-- behind these lines, of which the last one stands first
abbrev pub lines_heard : DeskParts → List (List ℕ) → DeskParts
lines_heard d [] = d
lines_heard d (line ∷ earlier) = line_heard (suc (length earlier)) line (lines_heard d earlier)

-- some lines were read of the log, and this is what is known behind them
pub record HearsLog (input : Option (List ℕ)) (before after : DeskParts) : Type 0 where
  pub lines : List (List ℕ)
  pub read : AreLines input lines
  pub heard : after ≡ lines_heard before lines
