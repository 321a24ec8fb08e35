use Rattle.std.proofs.Common.{List, subst, ◌∙◌}
use Rattle.leg.specs.LegId.{LegIdParts}
use Rattle.session_worker.specs.Restoring.{StartParts, AsksFor}
use Rattle.session_worker.proofs.Redone.{asks_here, asks_next, asks_every}
use Rattle.session_worker.proofs.restoring.Start.withdraw_all.Goals as goal

pub loop-id-init : goal.loop-id-init
loop-id-init g c = asks_here _

pub loop-id-preserved : goal.loop-id-preserved
loop-id-preserved g c =
    asks_next c.deref-id-items.result.now c.loop-id.id-index c.id-item.result c.loop-id-test.true c.id-item.is
    c.args.self.now c.loop-id.self c.withdraw.new.self c.loop-id.invariant c.withdraw.ensures

pub returns : goal.returns
returns g c =
    let a : StartParts = c.args.self.now in
    let b : StartParts = c.loop-id.self in
    subst (λ (ids : List LegIdParts). AsksFor ids a b) (c.deref-id-items.ensures.value ∙ c.into_vec-ids.ensures)
    (asks_every c.deref-id-items.result.now c.loop-id.id-index a b c.loop-id-test.false c.loop-id.invariant)
