use Rattle.check_command.proofs.DayJudged.{ends_of}
use Rattle.check_command.proofs.check.Goals as goal

pub returns-in-Ok : goal.returns-in-Ok
returns-in-Ok g c =
    ends_of c.in-Ok.ensures.asked.0 c.in-Ok.request c.in-Ok.ensures.asked.1
    (g.W.Write.contents c.args.out.now) (g.W.Write.contents c.check_asked.new.out) c.check_asked.result
    c.check_asked.ensures.checked c.check_asked.ensures.kept
