use Rattle.std.proofs.Common.{refl, subst, ◌∙◌}
use Rattle.kept_link.specs.Telling.{KeepsAll}
use Rattle.session_worker.specs.Keeping.{Told}
use Rattle.session_worker.proofs.Spoken.{stays_here}
use Rattle.session_worker.proofs.Speech.{stays_on}
use Rattle.session_worker.proofs.Told.{lines_kept}
use Rattle.session_worker.proofs.telling.keep.Goals as goal

pub loop-init : goal.loop-init
loop-init g c = (refl, stays_here _)

pub loop-preserved : goal.loop-preserved
loop-preserved g c = (c.in-Err.ensures ∙ c.loop.invariant.0, stays_on _ _ _ c.loop.invariant.1 c.wait.ensures.wire)

pub returns-in-Ok-clause-told : goal.returns-in-Ok-clause-told
returns-in-Ok-clause-told g c =
    let kept : KeepsAll (g.J.Telling.told c.args.journal.now) (g.J.Telling.told c.keep.new.self) =
    subst (λ (t : Told). KeepsAll t (g.J.Telling.told c.keep.new.self)) c.loop.invariant.0 c.in-Ok.ensures.0 in
    lines_kept (g.J.Telling.told c.args.journal.now) (g.J.Telling.told c.keep.new.self) kept

pub returns-in-Ok-clause-wire : goal.returns-in-Ok-clause-wire
returns-in-Ok-clause-wire g c = c.loop.invariant.1
