-- For good, over restarts too: what is settled stays so from each moment to every later one.
use Rattle.std.specs.Prelude.{◌≡◌, ◌≤◌, ◌⊎◌, ℕ, List, [], ◌∷◌, Some, None}
use Rattle.std.specs.List.{AllPairs, Contains}
use Rattle.fix_tags.specs.Config.{ConfigParts}
use Rattle.leg.specs.Numbered.{numbered}
use Rattle.leg.specs.declared.leg.Leg.{Leg}
use Rattle.leg.specs.declared.leg_state.LegState.TheVariants.{Doubt, Taken, Withdrawn}
use Rattle.session_core.specs.Session.{leg_state}
use Rattle.venue_line.specs.Line.{Line, new_line}
use Rattle.venue_line.specs.LineTheorem.{IsWithdrawnLeg, LineHolds}
use Rattle.line_restart.specs.Lives.{Life, durable_line, killed_line, IsLife, AreLives, all_moments}
use Rattle.line_restart.specs.RestartTheorem.{IsReached}

-- from a line to a later one: a leg that was accepted stays so, under its ordinal, is never withdrawn later, and the
-- session has it as taken or in doubt; so one that is taken stays so, or is in doubt again
pub record StaysAccepted (a b : Line) : Type 0 where
  pub accepted : (ordinal : ℕ) (holds : LineHolds a) → Contains holds.ordinals ordinal
      → (later : LineHolds b) × Contains later.ordinals ordinal
  pub released : (ordinal : ℕ) (leg : Leg) (holds : LineHolds a) → Contains holds.ordinals ordinal
      → numbered ordinal a.released ≡ Some leg → numbered ordinal b.released ≡ Some leg
  pub never_withdrawn : (ordinal : ℕ) (holds : LineHolds a) → Contains holds.ordinals ordinal
      → IsWithdrawnLeg b ordinal → ⊥
  pub known : (ordinal : ℕ) (holds : LineHolds a) → Contains holds.ordinals ordinal
      → (leg_state b.session ordinal ≡ Some Taken) ⊎ (leg_state b.session ordinal ≡ Some Doubt)
  pub taken : (ordinal : ℕ) → leg_state a.session ordinal ≡ Some Taken
      → (leg_state b.session ordinal ≡ Some Taken) ⊎ (leg_state b.session ordinal ≡ Some Doubt)

-- whenever the dispatcher is killed, and however often
abbrev pub WhatIsAcceptedStays : Type 0
WhatIsAcceptedStays = (config : ConfigParts) (first : Life) (lives : List Life) → config.max_number ≤ 999999999
    → first.start ≡ new_line config → AreLives first lives → AllPairs StaysAccepted (all_moments first lives)

-- of each life and the start of the next one
abbrev pub AllBefore : (Life → Line → Type 0) → Life → List Life → Type 0
AllBefore Keeps life [] = Unit {0}
AllBefore Keeps life (next ∷ lives) = Keeps life next.start × AllBefore Keeps next lives

-- no drop is lost: a leg that had left the desk unsent when the dispatcher was killed has left it in the next life
abbrev pub KeepsDrops : Life → Line → Type 0
KeepsDrops life next = (ordinal : ℕ) → IsWithdrawnLeg (killed_line life) ordinal
    → leg_state (killed_line life).session ordinal ≡ None → ordinal ≤ next.left

-- a leg that was withdrawn stays released under its ordinal, and is never accepted later, nor called taken, though its
-- withdrawal may be lost and the leg be in doubt again
pub record NeverAccepted (a b : Line) : Type 0 where
  pub released : (ordinal : ℕ) (leg : Leg) → IsWithdrawnLeg a ordinal → numbered ordinal a.released ≡ Some leg
      → numbered ordinal b.released ≡ Some leg
  pub accepted : (ordinal : ℕ) (holds : LineHolds b) → IsWithdrawnLeg a ordinal → Contains holds.ordinals ordinal → ⊥
  pub taken : (ordinal : ℕ) → IsWithdrawnLeg a ordinal → leg_state b.session ordinal ≡ Some Taken → ⊥

-- where no drop is lost
abbrev pub WhatIsWithdrawnIsNeverAccepted : Type 0
WhatIsWithdrawnIsNeverAccepted = (config : ConfigParts) (first : Life) (lives : List Life)
    → config.max_number ≤ 999999999 → first.start ≡ new_line config → AreLives first lives
    → AllBefore KeepsDrops first lives → AllPairs NeverAccepted (all_moments first lives)

-- what the session had withdrawn when it was killed isn't in doubt in the journal
abbrev pub IsSpared : Life → Type 0
IsSpared life = (ordinal : ℕ) → leg_state (killed_line life).session ordinal ≡ Some Withdrawn
    → leg_state (durable_line life).session ordinal ≡ Some Doubt → ⊥

-- no withdrawal is lost: neither a drop, nor one by the session
pub record KeepsWithdrawn (life : Life) (next : Line) : Type 0 where
  pub drops : KeepsDrops life next
  pub spared : IsSpared life

abbrev pub StaysWithdrawn : Line → Line → Type 0
StaysWithdrawn a b = (ordinal : ℕ) → IsWithdrawnLeg a ordinal → IsWithdrawnLeg b ordinal

-- where no withdrawal is lost
abbrev pub WhatIsWithdrawnStays : Type 0
WhatIsWithdrawnStays = (config : ConfigParts) (first : Life) (lives : List Life) → config.max_number ≤ 999999999
    → first.start ≡ new_line config → AreLives first lives → AllBefore KeepsWithdrawn first lives
    → AllPairs StaysWithdrawn (all_moments first lives)

-- what withdraws a leg writes something: so none is lost where the session wrote nothing since the journal ended
abbrev pub AWithdrawalIsWritten : Type 0
AWithdrawalIsWritten = (config : ConfigParts) (life : Life) → config.max_number ≤ 999999999
    → IsReached config life.start → IsLife life
    → (killed_line life).to_exchange ≡ (durable_line life).to_exchange → IsSpared life
