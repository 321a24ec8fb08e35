use Rattle.std.proofs.Common.{◌≡◌, List, ℕ, ap, ◌∙◌, arith}
use Rattle.std.specs.Prelude.{slice_set}
use Rattle.event_text.specs.declared.settled.Settled.{Settled}
use Rattle.event_text.proofs.SettledAgain.{told_all, told_next}
use Rattle.event_text.proofs.settled.Settled.start_again.Goals as goal

pub loop-number-preserved : goal.loop-number-preserved
loop-number-preserved g c =
    ap (slice_set c.loop-number.told c.loop-number.number) c.settled_at.ensures
    ∙ told_next c.args.world.now c.loop-number.number c.loop-number.told c.loop-number-test.true c.loop-number.invariant

pub returns : goal.returns
returns g c =
    let same = told_all c.args.world.now c.loop-number.number c.loop-number.told c.loop-number-test.false
    c.loop-number.auto.number-end c.loop-number.invariant in
    λ i. record { told = same i }
