use Rattle.session_core.proofs.DecidedTurn.{next-decided}
use Rattle.session_core.proofs.decision.Decision.next_number.Goals as goal

pub returns-clause-value : goal.returns-clause-value
returns-clause-value c =
    let same = next-decided c.args.before.now c.args.self.now in
    rw (same, ← c.as_slice.ensures.value, ← c.spent_by.ensures) c.number_after.ensures.value
