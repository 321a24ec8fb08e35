use Rattle.day_restart.proofs.Sweeps.{one_judged}
use Rattle.day_restart.proofs.desk_past.place_as.Goals as goal

pub returns-in-Ok-clause-sweeps : goal.returns-in-Ok-clause-sweeps
returns-in-Ok-clause-sweeps g c =
    (one_judged _ c.args.sweep.legs c.args.desk.now c.in-Ok.receipt c.release.new.self c.in-Ok.ensures.released).sweeps
