-- The theorem of the notes given on one line, whatever exchange keeps the rules: each is on a leg that the exchange has
-- accepted, and none on a leg that is withdrawn.
use Rattle.std.specs.Prelude.{◌≡◌, ◌≤◌, ℕ, List, Some}
use Rattle.std.specs.List.{All, Contains}
use Rattle.fix_tags.specs.Config.{ConfigParts}
use Rattle.leg.specs.Numbered.{numbered}
use Rattle.leg.specs.declared.leg.Leg.{Leg}
use Rattle.dialect.specs.declared.note.Note.{Note}
use Rattle.venue_line.specs.Line.{Line, new_line, AreSteps}
use Rattle.venue_line.specs.LineTheorem.{IsWithdrawnLeg}
use Rattle.line_notes.specs.OnAccepted.{leg_named, IsOnAccepted}

-- each note given is on a leg that the exchange has accepted
abbrev pub NotesAreOnAccepted : Line → Type 0
NotesAreOnAccepted w = (n : Note) → Contains w.given n → IsOnAccepted w.exchange.intake.accepted n

-- whatever an exchange does that keeps the rules, and whatever is delivered, lost, repeated or broken
abbrev pub TheNotesTheorem : Type 0
TheNotesTheorem = (config : ConfigParts) (lines : List Line) → config.max_number ≤ 999999999
    → AreSteps (new_line config) lines → All NotesAreOnAccepted lines

-- no two released legs have the same id
abbrev pub IdsAreApart : List Leg → Type 0
IdsAreApart released = (ordinal other : ℕ) (leg next : Leg) → numbered ordinal released ≡ Some leg
    → numbered other released ≡ Some next → leg.id ≡ next.id → ordinal ≡ other

-- where that is so, no note given is on a leg that is withdrawn
abbrev pub NoneIsOnWithdrawn : Line → Type 0
NoneIsOnWithdrawn w = IdsAreApart w.released → (ordinal : ℕ) (leg : Leg) (n : Note) → IsWithdrawnLeg w ordinal
    → numbered ordinal w.released ≡ Some leg → Contains w.given n → leg_named n ≡ Some leg.id → ⊥

abbrev pub TheWithdrawnTheorem : Type 0
TheWithdrawnTheorem = (config : ConfigParts) (lines : List Line) → config.max_number ≤ 999999999
    → AreSteps (new_line config) lines → All NoneIsOnWithdrawn lines
