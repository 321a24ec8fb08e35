use Rattle.std.proofs.Common.{◌≡◌, ◌∙◌, sym}
use Rattle.fix_tags.specs.Range.{range_end}
use Rattle.resend.specs.Kept.{kept_legs}
use Rattle.resend.proofs.Kept.{length-entries}
use Rattle.resend.proofs.Fills.{asks_to_the_end, asks_to_a_number, fill-low, fill-unasked, fill-above, fill-range}
use Rattle.resend.proofs.out_log.OutLog.answer.Goals as goal
use Rattle.resend.proofs.out_log.OutLog.answer.Goals.{then-last-eq0, else-last-eq0, then-begin-eq0-via-then-begin-eq0, then-begin-eq0-via-else-begin-eq0+then-begin-asked, then-begin-eq0-via-else-begin-eq0+else-begin-asked+then-begin-top}

pub returns-then-begin-eq0 : goal.returns-then-begin-eq0
returns-then-begin-eq0 c =
    let log = c.self.inside in
    let sent = log.last in
    let end : c.if-last-eq0.asked ≡ range_end sent c.args.last = elim c.if-last-eq0.branch [
      | then-last-eq0 w ↦ w.asked-is ∙ asks_to_the_end sent c.args.last w.if-last-eq0.true
      | else-last-eq0 w ↦ w.asked-is ∙ w.min-asked.ensures ∙ asks_to_a_number sent c.args.last w.if-last-eq0.false
    ] in
    let long = length-entries sent (kept_legs log.ids.items log.window.items log.runs.items) in
    rw (← c.self.view_is) (sym (elim c.then-begin-eq0.branch [
      | then-begin-eq0-via-then-begin-eq0 w ↦ fill-low c.args.begin c.args.last c.args.top sent _ _ long end w.if-begin-eq0.true
      | then-begin-eq0-via-else-begin-eq0+then-begin-asked w ↦ fill-unasked c.args.begin c.args.last c.args.top sent _ _ long end w.if-begin-asked.true
      | then-begin-eq0-via-else-begin-eq0+else-begin-asked+then-begin-top w ↦ fill-above c.args.begin c.args.last c.args.top sent _ _ long end w.if-begin-top.true
    ]))

pub returns : goal.returns
returns c =
    let log = c.self.inside in
    let sent = log.last in
    let end : c.if-last-eq0.asked ≡ range_end sent c.args.last = elim c.if-last-eq0.branch [
      | then-last-eq0 w ↦ w.asked-is ∙ asks_to_the_end sent c.args.last w.if-last-eq0.true
      | else-last-eq0 w ↦ w.asked-is ∙ w.min-asked.ensures ∙ asks_to_a_number sent c.args.last w.if-last-eq0.false
    ] in
    rw (← c.self.view_is, c.min.ensures)
    (sym (fill-range c.args.begin c.args.last c.args.top sent _ _ (length-entries sent (kept_legs log.ids.items log.window.items log.runs.items)) end c.if-begin-eq0.false c.if-begin-asked.false c.if-begin-top.false))
