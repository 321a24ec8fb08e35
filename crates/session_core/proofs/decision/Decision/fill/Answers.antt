use Rattle.session_core.proofs.DecidedTurn.{fill-turn}
use Rattle.session_core.proofs.decision.Decision.fill.Goals as goal

pub returns-clause-turn : goal.returns-clause-turn
returns-clause-turn c =
    λ s.
    rw (← c.fill.view_is)
    (fill-turn s c.args.self.now (record { first = c.fill.inside.first; new_number = c.fill.inside.new_number }) _
    c.push.ensures.items)
