use Rattle.std.proofs.Common.{◌≡◌, ◌+◌, ◌<◌, true, false, slice_get, Some, ap, sym, ◌∙◌, subst, arith}
use Rattle.exec_collector.proofs.Counts.{venue_is}
use Rattle.sweep_release.specs.History.{KeptDesk}
use Rattle.release_lock.specs.Locked.{Replays}
use Rattle.release_lock.specs.Queues.{PumpsOut, PumpsEach}
use Rattle.release_lock.proofs.SweepVenues.{pumps_next}
use Rattle.release_lock.proofs.pumping.pump_each.Goals as goal
use Rattle.release_lock.proofs.pumping.pump_each.Goals.{then-has, else-has}

pub loop-number-preserved : goal.loop-number-preserved
loop-number-preserved g c =
    let number = c.loop-number.number in
    let before = c.args.locked.now in
    let between = c.loop-number.locked in
    let so_far = c.loop-number.invariant in
    let few = c.venues-count.ensures.few in
    let low : number < 16 = omega (arith, few, c.loop-number-test.true) in
    let same : c.in-Ok.venue ≡ number = venue_is number c.in-Ok.venue (sym c.new.ensures ∙ c.in-Ok.is) in
    let marked = ap (slice_get c.args.venues.now.marks) (sym same) ∙ c.has.ensures in
    elim c.if-has.branch [
      | then-has w ↦ (
        (λ named are_marks.
            subst (λ (d : KeptDesk). PumpsEach named (number + 1) before d) (sym w.locked-is)
            (pumps_next named number true before between w.pump.new.self
            (sym (are_marks number low) ∙ (marked ∙ ap (λ b. Some b) w.if-has.true)) (so_far.0 named are_marks)
            (subst (λ v. PumpsOut v between w.pump.new.self) same
            (record { pumps = w.pump.ensures.desk; done = w.pump.ensures.done })))),
        subst Replays (sym w.locked-is) w.pump.ensures.replays.1,
      )
      | else-has w ↦ (
        (λ named are_marks.
            pumps_next named number false before between c.if-has.locked
            (sym (are_marks number low) ∙ (marked ∙ ap (λ b. Some b) w.if-has.false)) (so_far.0 named are_marks)
            w.locked-is),
        subst Replays (sym w.locked-is) so_far.1,
      )
    ]
