use Rattle.std.proofs.Common.{◌≡◌, sym, ap, subst, ◌∙◌}
use Rattle.replay.proofs.OpenDesks.{call_desk, up_next}
use Rattle.replay.proofs.desk_again.open_desk.Goals as goal

pub loop-number-preserved : goal.loop-number-preserved
loop-number-preserved c =
    let d = c.loop-number.desk.desk in
    let next = up_next d c.gate_up.new.self.desk c.venue_number.result c.loop-number.invariant.unshut
    (call_desk _ _ _ _ c.gate_up.result _ (sym c.is_err.ensures.value ∙ c.if-is_err.false) c.gate_up.ensures.answer) in
    record {
      sweeps = next.sweeps ∙ c.loop-number.invariant.sweeps;
      venues = next.count ∙ c.loop-number.invariant.venues;
      unshut = next.unshut;
    }
