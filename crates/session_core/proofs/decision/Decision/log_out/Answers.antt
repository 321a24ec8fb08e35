use Rattle.std.proofs.Common.{ap}
use Rattle.session_core.specs.declared.phase.Phase.TheVariants.{LoggedOut}
use Rattle.session_core.specs.Turn.{Turn, with_session}
use Rattle.session_core.proofs.decision.Decision.log_out.Goals as goal

pub returns-clause-turn : goal.returns-clause-turn
returns-clause-turn c =
    ap (λ (turn : Turn). with_session (record turn.session { phase = LoggedOut }) turn) c.write.ensures.turn
