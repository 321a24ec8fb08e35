use Rattle.std.proofs.Common.{rules, arith, ◌≡◌, ◌≤◌, length, take, drop, Some, Err, Result, sym, ap, ◌∙◌, subst}
use Rattle.fix_tags.specs.Stamp.{stamp_read}
use Rattle.log_text.specs.Line.{ReadsLine, direction_said, line_said}
use Rattle.log_text.specs.declared.fault.LineFault.{LineFault}
use Rattle.log_text.specs.declared.line.LogLine.{LogLine}
use Rattle.log_text.specs.Message.{ReadsMessage, message_said}
use Rattle.log_text.proofs.LineParts.{reads_fault, rest_at, said_of_parts}
use Rattle.log_text.proofs.line.read_line.Goals as goal

pub returns-in_err-read_message-clause-said : goal.returns-in_err-read_message-clause-said
returns-in_err-read_message-clause-said c =
    let line = c.args.line.now in
    let message = c.read_message.new.message.items in
    let fault = c.in_err-read_message.field-0.0 in
    let long : 24 ≤ length line = omega arith in
    let first : stamp_read (take 21 line) ≡ Some c.in_ok-stamp.stamp = sym c.read_stamp.ensures ∙ c.in_ok-stamp.ensures.ok_part in
    let second : direction_said (take 3 (drop 21 line)) ≡ Some c.in_ok-direction.direction =
    sym c.direction_of.ensures ∙ c.in_ok-direction.ensures.ok_part in
    let same : Err fault ≡ c.from_residual-in_err-read_message.result = search rules in
    subst (λ (r : Result LogLine LineFault). ReadsLine (line_said line) r message) same
    (reads_fault line message c.in_ok-stamp.stamp c.in_ok-direction.direction fault long first second
    (subst (λ text. ReadsMessage (message_said text) (Err fault) message) (rest_at 24 line) c.in_err-read_message.ensures.said))

pub returns-clause-said : goal.returns-clause-said
returns-clause-said c =
    let line = c.args.line.now in
    let long : 24 ≤ length line = omega arith in
    said_of_parts line c.read_message.new.message.items c.in_ok-stamp.stamp c.in_ok-direction.direction long
    (sym c.read_stamp.ensures ∙ c.in_ok-stamp.ensures.ok_part)
    (sym c.direction_of.ensures ∙ c.in_ok-direction.ensures.ok_part)
    (ap message_said (sym (rest_at 24 line)) ∙ c.in_ok-read_message.ensures.said)
