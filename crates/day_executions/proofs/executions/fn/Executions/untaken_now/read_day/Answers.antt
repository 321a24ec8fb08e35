use Rattle.day_executions.specs.Executions.{AreUntaken, IsLeft}
use Rattle.day_executions.proofs.Now.{looks_at}
use Rattle.day_executions.proofs.executions.fn.Executions.untaken_now.read_day.Goals as goal

pub returns : goal.returns
returns c =
    let before = c.captures.self.now in
    looks_at IsLeft (AreUntaken c.captures.after) before.entries before.items before.places.items
    c.args.book.now.entries c.history.result.now c.args.unbooked.now c.args.beside.now.words c.words.result.now c.look_for_untaken.result c.history.ensures c.words.ensures
    c.look_for_untaken.ensures.told c.look_for_untaken.ensures.lent
