use Rattle.std.proofs.Common.{◌∙◌}
use Rattle.day_check.specs.Judge.{line_entry}
use Rattle.day_check.specs.LogCheck.{log_parts}
use Rattle.day_check.specs.LogText.{style_of}
use Rattle.day_check.proofs.Judged.{as_judged, counted, told}
use Rattle.day_check.proofs.log_check.LogCheck.check_message.Goals as goal

pub returns-clause-day : goal.returns-clause-day
returns-clause-day c =
    as_judged c.args.number (line_entry c.args.printing.now.form.now c.args.line.now) c.args.self.now.day c.judge.new.self.day
    c.in_ok-verdicts.verdicts c.in_ok-verdicts.ensures.judged

pub returns-clause-checked : goal.returns-clause-checked
returns-clause-checked c =
    counted c.args.number (line_entry c.args.printing.now.form.now c.args.line.now) (log_parts c.args.self.now)
    c.judge.new.self.day c.count.new.tallies c.judge.new.self.tallies c.judge.new.self.is_own
    c.judge.new.self.executions c.in_ok-verdicts.verdicts c.in_ok-verdicts.ensures.judged c.count.ensures
    c.judge.ensures.tallies c.judge.ensures.own c.judge.ensures.executions

pub returns-clause-text : goal.returns-clause-text
returns-clause-text c off =
    c.in_ok-text.ensures off
    ∙ told (style_of c.args.printing.now) c.args.number c.args.line.now
    (line_entry c.args.printing.now.form.now c.args.line.now) c.args.self.now.day c.judge.new.self.day
    c.in_ok-verdicts.verdicts c.in_ok-verdicts.ensures.judged
