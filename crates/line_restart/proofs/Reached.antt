-- Every line of a dispatcher that is killed and started again is one that ordinary steps lead to, and so is safe.
use Rattle.std.proofs.Common.{◌≤◌, List, [], ◌∷◌, ◌++◌, sym, subst}
use Rattle.std.specs.List.{All}
use Rattle.std.proofs.lemmas.List.Elements.{All-cons, All-append, All-weaker}
use Rattle.fix_tags.specs.Config.{ConfigParts}
use Rattle.venue_line.specs.Line.{Line, new_line}
use Rattle.venue_line.specs.LineTheorem.{LineHolds}
use Rattle.venue_line.proofs.Stepping.{steps_keep}
use Rattle.venue_line.proofs.Leading.{last_keeps, leads_keep}
use Rattle.venue_line.proofs.GivenSteps.{Whole, whole_new, whole_step}
use Rattle.venue_line.proofs.LineGives.{line_holds}
use Rattle.line_notes.specs.NotesTheorem.{NotesAreOnAccepted, NoneIsOnWithdrawn}
use Rattle.line_notes.proofs.OwnAccepted.{WholeNoted, own_new, noted_step}
use Rattle.line_notes.proofs.NotesGiven.{notes_on, none_on_withdrawn}
use Rattle.line_restart.specs.Lives.{Life, durable_line, moments_of, IsLife, AreLives, all_moments}
use Rattle.line_restart.specs.RestartTheorem.{IsReached, TheReachedTheorem, TheRestartTheorem, TheNotesOverRestarts, AnOpenConnectionIsSafe}
use Rattle.line_restart.proofs.Cut.{reached_new, reached_step}
use Rattle.line_restart.proofs.Restarting.{restart_reached, open_reached}

module _ (config : ConfigParts) where
  pub durable_reached : (life : Life) → IsLife life → IsReached config life.start
      → IsReached config (durable_line life)
  durable_reached life is r =
      last_keeps (IsReached config) (reached_step config) life.start life.durable is.steps r

  life_reached : (life : Life) → IsLife life → IsReached config life.start
      → All (IsReached config) (moments_of life)
  life_reached life is r =
      All-cons (IsReached config) life.start (life.durable ++ life.lost) r
      (All-append (IsReached config) life.durable life.lost
      (steps_keep (IsReached config) (reached_step config) life.start life.durable is.steps r)
      (steps_keep (IsReached config) (reached_step config) (durable_line life) life.lost is.more
      (durable_reached life is r)))

  lives_reached : (life : Life) (lives : List Life) → AreLives life lives → IsReached config life.start
      → All (IsReached config) (all_moments life lives)
  lives_reached life [] is r = life_reached life is r
  lives_reached life (next ∷ lives) is r =
      All-append (IsReached config) (moments_of life) (all_moments next lives) (life_reached life is.0 r)
      (lives_reached next lives is.2
      (restart_reached config life is.0 next.start is.1 (durable_reached life is.0 r)))

pub the_reached_theorem : TheReachedTheorem
the_reached_theorem config first lives new is =
    lives_reached config first lives is (subst (IsReached config) (sym new) (reached_new config))

-- all that is kept by ordinary steps holds of it
pub reached_whole : (config : ConfigParts) → config.max_number ≤ 999999999 → (w : Line) → IsReached config w → Whole w
reached_whole config small w r =
    leads_keep Whole whole_step (new_line config) w r (whole_new config small)

pub reached_holds : (config : ConfigParts) → config.max_number ≤ 999999999 → (w : Line) → IsReached config w
    → LineHolds w
reached_holds config small w r = (let h = reached_whole config small w r in line_holds w h.0 h.1)

pub the_restart_theorem : TheRestartTheorem
the_restart_theorem config first lives small new is =
    All-weaker (IsReached config) LineHolds (reached_holds config small) (all_moments first lives)
    (the_reached_theorem config first lives new is)

-- and the notes
pub reached_noted : (config : ConfigParts) → config.max_number ≤ 999999999 → (w : Line) → IsReached config w → WholeNoted w
reached_noted config small w r =
    leads_keep WholeNoted noted_step (new_line config) w r (whole_new config small, own_new config)

pub the_notes_over_restarts : TheNotesOverRestarts
the_notes_over_restarts config first lives small new is =
    let reached = the_reached_theorem config first lives new is in (
      All-weaker (IsReached config) NotesAreOnAccepted (λ w r. notes_on w (reached_noted config small w r))
          (all_moments first lives) reached,
      All-weaker (IsReached config) NoneIsOnWithdrawn (λ w r. none_on_withdrawn w (reached_noted config small w r))
          (all_moments first lives) reached,
    )

pub an_open_connection_is_safe : AnOpenConnectionIsSafe
an_open_connection_is_safe config life next small r is restart =
    reached_holds config small (record next { session = (durable_line life).session })
    (open_reached config life is next restart (durable_reached config life is r))
