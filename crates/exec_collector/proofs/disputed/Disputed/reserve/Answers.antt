use Rattle.std.proofs.Common.{ℕ, Option, ap}
use Rattle.std.specs.Prelude.{unwrap_or}
use Rattle.exec_collector.proofs.disputed.Disputed.reserve.Goals as goal

pub returns-clause-same : goal.returns-clause-same
returns-clause-same c = λ id.
    ap (λ (o : Option ℕ). unwrap_or o 0) (c.reserve.ensures.entries.2 (id.sweep, id.place))
