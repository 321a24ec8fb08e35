use Rattle.std.proofs.Common.{rules}
use Rattle.exec_collector.specs.Unbooked.{without_room}
use Rattle.day_sweeps.proofs.paid.paid_sweep_now.Goals as goal

pub returns-clause-booked : goal.returns-clause-booked
returns-clause-booked g c =
    let told = c.read_day.ensures in
    record {
      day = without_room told.0;
      beside = told.1;
      replays = told.2;
      list = told.3;
      kept = told.4;
      is = search (rules, told.5.met, told.5.shows);
    }
