use Rattle.day_executions.specs.Executions.{IsHeard, IsLent}
use Rattle.day_executions.proofs.Now.{looks_at}
use Rattle.day_executions.proofs.executions.fn.Executions.now.read_day.Goals as goal

pub returns : goal.returns
returns c =
    let before = c.captures.self.now in
    looks_at IsHeard (IsLent c.captures.after c.captures.most) before.entries before.items before.places.items
    c.args.book.now.entries c.history.result.now c.args.unbooked.now c.args.beside.now.words c.words.result.now c.look.result c.history.ensures c.words.ensures
    c.look.ensures.told c.look.ensures.lent
