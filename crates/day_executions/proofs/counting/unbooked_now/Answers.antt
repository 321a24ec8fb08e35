use Rattle.std.proofs.Common.{rules}
use Rattle.exec_collector.specs.Unbooked.{without_room}
use Rattle.day_executions.proofs.counting.unbooked_now.Goals as goal

pub returns : goal.returns
returns g c =
    let told = c.read_all.ensures in
    record { day = without_room told.0; replays = told.1; list = told.2; are = search (rules, told.3.met, told.3.shows) }
