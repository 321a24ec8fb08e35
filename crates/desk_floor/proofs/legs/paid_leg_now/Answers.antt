use Rattle.std.proofs.Common.{rules}
use Rattle.exec_collector.specs.Unbooked.{without_room}
use Rattle.desk_floor.proofs.legs.paid_leg_now.Goals as goal

pub returns : goal.returns
returns g c =
    let told = c.read_day.ensures in
    record {
      day = without_room told.0;
      beside = told.1;
      replays = told.2;
      list = told.3;
      kept = told.4;
      is = search (rules, told.5.met, told.5.shows);
    }
