-- Notes and withdrawn legs over restarts: of any two moments, no note given at the one is on a leg that is withdrawn at
-- the other.
use Rattle.std.specs.Prelude.{◌≡◌, ◌≤◌, ℕ, List, Some}
use Rattle.std.specs.List.{AllPairs, Contains}
use Rattle.fix_tags.specs.Config.{ConfigParts}
use Rattle.leg.specs.Numbered.{numbered}
use Rattle.leg.specs.declared.leg.Leg.{Leg}
use Rattle.dialect.specs.declared.note.Note.{Note}
use Rattle.venue_line.specs.Line.{Line, new_line}
use Rattle.venue_line.specs.LineTheorem.{IsWithdrawnLeg}
use Rattle.line_notes.specs.OnAccepted.{leg_named}
use Rattle.line_notes.specs.NotesTheorem.{IdsAreApart}
use Rattle.line_restart.specs.Lives.{Life, AreLives, all_moments}
use Rattle.line_restart.specs.OverRestarts.{AllBefore, KeepsDrops}

-- no note given here is on a leg that is withdrawn there
abbrev pub NoNoteIsOn : (given gone : Line) → Type 0
NoNoteIsOn given gone = (ordinal : ℕ) (leg : Leg) (n : Note) → IsWithdrawnLeg gone ordinal
    → numbered ordinal gone.released ≡ Some leg → Contains given.given n → leg_named n ≡ Some leg.id → ⊥

-- no note given on a line is on a leg withdrawn on a later one, nor the other way round, where no two legs released on
-- the later one have the same id
abbrev pub SparesLater : Line → Line → Type 0
SparesLater a b = IdsAreApart b.released → NoNoteIsOn a b

abbrev pub SparesEarlier : Line → Line → Type 0
SparesEarlier a b = IdsAreApart b.released → NoNoteIsOn b a

-- a leg that was dropped stays so only where no drop is lost
pub record AreSpared (first : Life) (lives : List Life) : Type 0 where
  pub later : AllPairs SparesLater (all_moments first lives)
  pub earlier : AllBefore KeepsDrops first lives → AllPairs SparesEarlier (all_moments first lives)

-- whenever the dispatcher is killed, and however often
abbrev pub TheNotesSpareWithdrawn : Type 0
TheNotesSpareWithdrawn = (config : ConfigParts) (first : Life) (lives : List Life) → config.max_number ≤ 999999999
    → first.start ≡ new_line config → AreLives first lives → AreSpared first lives
