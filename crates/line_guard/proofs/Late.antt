-- The run may be, and comes to what it should.
use Rattle.std.proofs.Common.{[], ◌∷◌, ◌++◌, None, refl, arith}
use Rattle.std.specs.Fmt.{digits}
use Rattle.session_core.specs.Example.{config}
use Rattle.exchange_core.specs.Acceptance.{rule_opening, May}
use Rattle.std.specs.Prelude.{Some}
use Rattle.venue_line.specs.Line.{new_line, AreSteps}
use Rattle.venue_line.specs.Worked.{logon, fence, answer, asks, standing, two}
use Rattle.venue_line.proofs.Worked.{asks_for, answers, connects, receives, exchanges}
use Rattle.line_guard.specs.Late.{joining, asked_for, fenced, fence_answered, answer_first, IsAskedWhenUp}

takes_logon : May rule_opening (Some (logon 1 1)) (standing 1 2 [] two) (logon 1 1 ∷ asks 1 2 2 ∷ [])
takes_logon =
    asks_for rule_opening.intake (standing 1 2 [] two).intake [] 1 1 1 (omega arith) (omega arith) refl (omega arith)
    (omega arith) refl refl

takes_fence : May (standing 1 2 [] two) (Some (fence 1 2)) (standing 1 3 [] (two ++ None ∷ [])) (answer 1 3 2 ∷ [])
takes_fence = answers (standing 1 2 [] two).intake two 1 2 3 refl refl (omega arith) (omega arith) refl

steps : AreSteps (new_line config) (joining ∷ asked_for ∷ fenced ∷ fence_answered ∷ answer_first ∷ [])
unfolding digits
steps = (
  connects (new_line config) tt,
  (
    exchanges joining (logon 1 1) (standing 1 2 [] two) (logon 1 1 ∷ asks 1 2 2 ∷ []) (0, omega arith, refl) takes_logon,
    (
      receives asked_for (logon 1 1) (0, omega arith, refl) refl,
      (
        exchanges fenced (fence 1 2) (standing 1 3 [] (two ++ None ∷ [])) (answer 1 3 2 ∷ []) (1, omega arith, refl)
            takes_fence,
        (receives fence_answered (answer 1 3 2) (2, omega arith, refl) refl, tt),
      ),
    ),
  ),
)

pub asked_when_up : IsAskedWhenUp
unfolding digits
asked_when_up = record { steps = steps; up = refl; settled = refl; coming = (1, omega arith, refl) }
