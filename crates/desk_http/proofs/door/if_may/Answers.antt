use Rattle.std.proofs.Common.{sym}
use Rattle.desk_http.proofs.Rightful.{asked_rightly}
use Rattle.desk_http.proofs.door.if_may.Goals as goal

pub returns-clause-rightly : goal.returns-clause-rightly
returns-clause-rightly c =
    asked_rightly c.args.door.now c.args.request.now c.args.call c.in_ok-by.by (sym c.in_ok-by.ensures)
