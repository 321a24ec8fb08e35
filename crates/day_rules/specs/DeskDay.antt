-- The log of the lines that a desk took, with where things stand in it.
use Rattle.std.specs.Prelude.{ℕ, [], List, Option, Some, None, length, not}
use Rattle.message_log.specs.declared.direction.Direction.{Direction}
use Rattle.log_rules.specs.declared.moment.Moment.{Moment}
use Rattle.day_rules.specs.Intake.{IntakeParts, fits, taken_in}
use Rattle.day_rules.specs.Lines.{first_line, noted_line}

-- what it says; where each sweep was placed; the first line that doesn't fit those before it; and when the last one was
-- logged
pub record DeskParts : Type 0 where
  pub intake : IntakeParts
  pub placed : List ℕ
  pub unfit : Option ℕ
  pub last : Option Moment

-- before any line, of a desk with venues of these names
abbrev pub new_desk : List (List ℕ) → DeskParts
new_desk names = record {
  intake = record { names = names; asked = None; sweeps = [] };
  placed = [];
  unfit = None;
  last = None;
}

-- behind the line of a number, logged at this moment
abbrev pub desk_heard : ℕ → Moment → Direction → List ℕ → DeskParts → DeskParts
desk_heard number moment direction text d = record {
  intake = taken_in direction text d.intake;
  placed = noted_line number (length (taken_in direction text d.intake).sweeps) d.placed;
  unfit = first_line (not (fits direction text d.intake)) number d.unfit;
  last = Some moment;
}
