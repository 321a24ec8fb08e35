use Rattle.session_core.proofs.DecidedTurn.{put-turn}
use Rattle.session_core.proofs.decision.Decision.put.Goals as goal

pub returns-clause-turn : goal.returns-clause-turn
returns-clause-turn c =
    put-turn c.args.before.now c.args.self.now c.args.says _ _ c.push.ensures.items c.next_number-number.ensures.value
