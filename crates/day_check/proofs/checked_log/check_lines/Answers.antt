use Rattle.std.proofs.Common.{rules, Bool, subst}
use Rattle.std.specs.Prelude.{IfSome}
use Rattle.day_check.specs.LogCheck.{log_parts}
use Rattle.day_check.specs.LogText.{style_of}
use Rattle.day_check.specs.Lines.{ReadsNext}
use Rattle.day_check.proofs.LinesRead.{none_checked, one_checked, read_all_cut}
use Rattle.day_check.proofs.checked_log.check_lines.Goals as goal

pub loop-number-init : goal.loop-number-init
loop-number-init g c =
    none_checked (style_of c.args.printing.now) c.args.printing.now.is_json (g.R.Read.remaining c.args.input.now)
    (g.W.Write.contents c.args.out.now) (log_parts c.new-log.result) c.new-log.ensures

pub loop-number-preserved : goal.loop-number-preserved
loop-number-preserved g c =
    let left = g.R.Read.remaining c.loop-number.input in
    let next = g.R.Read.remaining c.read_text.new.input in
    let raw = c.read_text.new.buffer.items in
    let reads = subst (λ (b : Bool). IfSome left (ReadsNext b raw next)) c.if-not-branch.false c.in_ok-read_text.ensures in
    one_checked (style_of c.args.printing.now) c.args.printing.now.is_json (g.R.Read.remaining c.args.input.now) left next
    (g.W.Write.contents c.args.out.now) (g.W.Write.contents c.loop-number.out) (g.W.Write.contents c.print.new.out)
    c.loop-number.number (log_parts c.loop-number.log) (log_parts c.check_line.new.self) raw c.in_ok-text.text.items reads
    (search rules) (search rules) (search rules) c.loop-number.invariant

pub returns-then-not-branch : goal.returns-then-not-branch
returns-then-not-branch g c =
    let left = g.R.Read.remaining c.loop-number.input in
    let next = g.R.Read.remaining c.read_text.new.input in
    let raw = c.read_text.new.buffer.items in
    let reads = subst (λ (b : Bool). IfSome left (ReadsNext b raw next)) c.if-not-branch.true c.in_ok-read_text.ensures in
    let so_far = c.loop-number.invariant in record {
      lines = so_far.lines;
      read = read_all_cut (g.R.Read.remaining c.args.input.now) left next raw so_far.lines _ (search rules) reads so_far.read;
      parts = so_far.parts;
      printed = so_far.printed;
    }
