use Rattle.std.proofs.Common.{◌≡◌, map, take}
use Rattle.day_restart.specs.Redoing.{leg_count}
use Rattle.day_restart.proofs.restored.counts_of.Given as goal

abbrev pub invariant-loop-past : goal.invariant-loop-past
invariant-loop-past g l =
    l.counts.items ≡ map (λ p. leg_count (map (λ v. v.items) p.lines.now)) (take l.past-index l.pasts)
