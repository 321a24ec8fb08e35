use Rattle.std.proofs.Common.{◌≡◌, ◌∙◌}
use Rattle.replay.proofs.OpenDesks.{take_next}
use Rattle.replay.proofs.desk_again.take_all.Goals as goal

pub loop-preserved : goal.loop-preserved
loop-preserved c =
    let next = take_next c.loop.desk.desk c.take.new.self.desk c.args.venue c.loop.invariant.unshut c.take.ensures.desk in
    record {
      sweeps = next.sweeps ∙ c.loop.invariant.sweeps;
      venues = next.count ∙ c.loop.invariant.venues;
      unshut = next.unshut;
    }
