use Rattle.std.proofs.Common.{refl, subst, ◌∙◌}
use Rattle.std.specs.Prelude.{Option}
use Rattle.journal_tape.specs.Told.{LinesTold}
use Rattle.kept_link.specs.Telling.{KeepsAll}
use Rattle.kept_link.proofs.Lines.{lines_kept}
use Rattle.release_lock.proofs.noting.keep.Goals as goal

pub loop-init : goal.loop-init
loop-init g c = refl

pub loop-preserved : goal.loop-preserved
loop-preserved g c = c.in-Err.ensures ∙ c.loop.invariant

pub returns-in-Ok-clause-told : goal.returns-in-Ok-clause-told
returns-in-Ok-clause-told g c =
    let kept : KeepsAll (g.J.Telling.told c.args.journal.now) (g.J.Telling.told c.keep.new.self) =
    subst (λ (t : Option LinesTold). KeepsAll t (g.J.Telling.told c.keep.new.self)) c.loop.invariant c.in-Ok.ensures.0 in
    lines_kept (g.J.Telling.told c.args.journal.now) (g.J.Telling.told c.keep.new.self) kept
