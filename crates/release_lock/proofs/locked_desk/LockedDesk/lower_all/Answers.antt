use Rattle.std.proofs.Common.{◌≡◌, sym, ap, subst, ◌∙◌, add-one}
use Rattle.exec_collector.proofs.Counts.{venue_is}
use Rattle.sweep_release.specs.Desk.{gate_down}
use Rattle.release_lock.specs.Held.{down_below}
use Rattle.release_lock.proofs.locked_desk.LockedDesk.lower_all.Goals as goal

pub loop-number-preserved : goal.loop-number-preserved
loop-number-preserved g c =
    let number = c.loop-number.number in
    let same : c.in-Ok.venue ≡ number = venue_is number c.in-Ok.venue (sym c.new.ensures ∙ c.in-Ok.is) in
    let so_far = c.loop-number.invariant in (
      subst (λ n. c.lower.new.self.desk ≡ down_below n c.args.self.now.desk) (sym (add-one number))
          (c.lower.ensures.down
          ∙ (ap (gate_down c.loop-number.self.desk) same ∙ ap (λ d. gate_down d number) so_far.0)),
      c.lower.ensures.replays.1,
      so_far.2,
    )
