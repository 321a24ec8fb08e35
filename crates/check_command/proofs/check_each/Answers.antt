use Rattle.check_command.proofs.DayJudged.{each_checked}
use Rattle.check_command.proofs.check_each.Goals as goal

pub returns-clause-checked : goal.returns-clause-checked
returns-clause-checked g c =
    each_checked c.args.request.now (g.W.Write.contents c.args.out.now) (g.W.Write.contents c.check_logs.new.out)
    c.in_ok-day.day c.in_ok-day.ensures.checked
