use Rattle.std.proofs.Common.{length, map}
use Rattle.day_restart.specs.Redoing.{AllRedoTo}
use Rattle.day_restart.proofs.Places.{left}
use Rattle.day_restart.proofs.restored.redo_all.Given as goal

abbrev pub invariant-loop-place : goal.invariant-loop-place
invariant-loop-place g l =
    AllRedoTo (map (λ p. ((g.D.Dialect.wording p.dialect).decoding, map (λ v. v.items) p.lines.now)) l.pasts) l.at.items
    l.initial.starts l.starts

abbrev pub decreases-loop-place : goal.decreases-loop-place
decreases-loop-place g l = left (map (λ p. length p.lines.now) l.pasts) l.at.items
