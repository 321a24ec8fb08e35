use Rattle.std.proofs.Common.{sym, ◌∙◌}
use Rattle.day_sweeps.proofs.Booked.{sweep_told}
use Rattle.day_sweeps.proofs.sweeps.sweep_now.Goals as goal

pub returns-clause-booked : goal.returns-clause-booked
returns-clause-booked g c =
    let told = c.totals.ensures in
    record {
      book = told.0;
      replays = told.1;
      is = sweep_told told.0 c.args.number c.sum_of.result c.in_ok-totals.totals c.requires told.1
          (sym told.2 ∙ c.in_ok-totals.was) c.sum_of.ensures;
    }
