use Rattle.session_core.proofs.DecidedTurn.{fence-turn}
use Rattle.session_core.proofs.decision.Decision.put_fence.Goals as goal

pub returns-clause-turn : goal.returns-clause-turn
returns-clause-turn c =
    fence-turn c.args.before.now c.args.self.now _ _ c.push.ensures.items c.next_number-number.ensures.value
