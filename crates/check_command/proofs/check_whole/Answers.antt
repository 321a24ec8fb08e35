use Rattle.std.proofs.Common.{ℕ, List, map, subst, Bor}
use Rattle.check_command.specs.PathName.{AreNames}
use Rattle.check_command.proofs.DayJudged.{day_checked}
use Rattle.check_command.proofs.check_whole.Goals as goal

pub returns-clause-checked : goal.returns-clause-checked
returns-clause-checked g c =
    day_checked c.args.request.now c.args.path.now c.in_ok-names.names.items (g.W.Write.contents c.args.out.now)
    (g.W.Write.contents c.check_logs.new.out) (g.W.Write.contents c.check_day.new.out) c.in_ok-day.day
    c.in_ok-is_day_broken.is_day_broken c.in_ok-day.ensures.checked
    (subst (λ (paths : List (Bor (List ℕ))). AreNames c.in_ok-names.names.items (map (λ path. path.now) paths))
    c.deref.ensures.value c.in_ok-names.ensures.names)
    c.in_ok-is_day_broken.ensures.judged
