use Rattle.std.proofs.Common.{◌≡◌, false, List, ap, subst, ◌∙◌}
use Rattle.std.specs.Io.KnownBytes.{Appends}
use Rattle.day_rules.specs.VenueDay.{VenueParts}
use Rattle.day_check.specs.DayText.{sweeps_text}
use Rattle.day_rules.specs.DeskDay.{DeskParts}
use Rattle.day_check.specs.SweepsLog.{lines_heard}
use Rattle.check_command.proofs.DayJudged.{day_as_asked}
use Rattle.check_command.proofs.sentences.check_day.Goals as goal

pub returns-clause-judged : goal.returns-clause-judged
returns-clause-judged g c =
    let heard = c.in_ok-desk.ensures.heard in
    day_as_asked c.args.request.now c.printing-printing.result c.args.day.now c.args.path.now c.args.names.items heard.0
    c.in_ok-desk.desk (g.W.Write.contents c.args.out.now) (g.W.Write.contents c.read_desk.new.out)
    (g.W.Write.contents c.tell_sweeps.new.out) (g.W.Write.contents c.judge_day.new.out) c.in_ok-is_broken.is_broken
    c.printing-printing.ensures.style c.printing-printing.ensures.path c.printing-printing.ensures.is_json
    (heard.1 ∙ ap (λ (d : DeskParts). lines_heard d heard.0) c.new-unheard.ensures)
    c.in_ok-is_broken.ensures.told c.in_ok-desk.ensures.printed
    (subst (λ (venues : List VenueParts). c.printing-printing.result.is_json ≡ false
    → Appends (g.W.Write.contents c.read_desk.new.out) (g.W.Write.contents c.tell_sweeps.new.out)
    (sweeps_text venues c.in_ok-desk.desk)) c.deref.ensures.value c.in_ok-tell_sweeps.ensures.printed)
