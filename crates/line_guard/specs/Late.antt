-- Why only a session that isn't up is guarded: a run, computed, with an exchange that keeps the rules. It asks for
-- number 2, and then takes that, a fence. The answer comes first: the session is up, and the request is on its way.
use Rattle.std.specs.Prelude.{◌≡◌, [], ◌∷◌, ◌++◌, None}
use Rattle.std.specs.List.{Contains}
use Rattle.session_core.specs.declared.phase.Phase.TheVariants.{Up}
use Rattle.session_core.specs.Example.{config}
use Rattle.venue_line.specs.Line.{Line, new_line, AreSteps}
use Rattle.venue_line.specs.Worked.{logon, answer, asks, standing, two, connecting, receiving, exchanging}

abbrev pub joining : Line
joining = connecting (new_line config)

abbrev pub asked_for : Line
asked_for = exchanging (standing 1 2 [] two) (logon 1 1 ∷ asks 1 2 2 ∷ []) joining

abbrev pub fenced : Line
fenced = receiving (logon 1 1) asked_for

abbrev pub fence_answered : Line
fence_answered = exchanging (standing 1 3 [] (two ++ None ∷ [])) (answer 1 3 2 ∷ []) fenced

abbrev pub answer_first : Line
answer_first = receiving (answer 1 3 2) fence_answered

pub record IsAskedWhenUp : Type 0 where
  pub steps : AreSteps (new_line config) (joining ∷ asked_for ∷ fenced ∷ fence_answered ∷ answer_first ∷ [])
  pub up : answer_first.session.phase ≡ Up
  pub settled : answer_first.session.settled ≡ 2
  pub coming : Contains answer_first.from_exchange (asks answer_first.session.connection 2 2)
