use Rattle.std.proofs.Common.{rules}
use Rattle.std.specs.Prelude.{Ok}
use Rattle.exec_collector.specs.Unbooked.{without_room}
use Rattle.day_executions.specs.Executions.{AreUntaken, IsLeft, Looks}
use Rattle.day_executions.proofs.Now.{is_now}
use Rattle.day_executions.proofs.executions.Executions.untaken_now.Goals as goal

pub returns-in-Some-lent : goal.returns-in-Some-lent
returns-in-Some-lent g c =
    let told = c.in_ok-lent.ensures in
    let day = without_room told.0 in
    let words = told.1.words in
    let lends = AreUntaken c.args.after in
    let looked : Looks IsLeft lends day.book.entries day.unbooked words (Ok c.in_ok-lent.lent) =
    search (rules, told.5.met, told.5.shows) in
    is_now IsLeft lends day words c.in_ok-lent.lent c.in-Some-lent.lent told.2 told.3 told.4.words looked c.in-Some-lent.is
