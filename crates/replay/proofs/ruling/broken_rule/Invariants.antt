use Rattle.std.proofs.Common.{◌≡◌, drop}
use Rattle.std.specs.List.{list_all}
use Rattle.replay.specs.Ruling.{is_gone_at}
use Rattle.replay.proofs.ruling.broken_rule.Given as goal

abbrev pub invariant-loop-ordinal : goal.invariant-loop-ordinal
invariant-loop-ordinal g l = list_all (is_gone_at l.world l.venue l.left) (drop l.ordinal-index l.gone)
    ≡ list_all (is_gone_at l.world l.venue l.left) l.gone
