use Rattle.std.proofs.Common.{rules, Bool, subst}
use Rattle.std.specs.Prelude.{IfSome}
use Rattle.day_check.specs.Lines.{ReadsNext}
use Rattle.day_check.proofs.LinesRead.{none_heard, one_heard, read_all}
use Rattle.day_check.proofs.sweeps_log.hear_lines.Goals as goal

pub loop-number-init : goal.loop-number-init
loop-number-init g c = none_heard (g.R.Read.remaining c.args.input.now) c.args.desk

pub loop-number-preserved : goal.loop-number-preserved
loop-number-preserved g c =
    let left = g.R.Read.remaining c.loop-number.input in
    let next = g.R.Read.remaining c.read_text.new.input in
    let raw = c.read_text.new.buffer.items in
    let reads = subst (λ (b : Bool). IfSome left (ReadsNext b raw next)) c.if-not-branch.false c.in_ok-read_text.ensures in
    one_heard (g.R.Read.remaining c.args.input.now) left next c.loop-number.number c.args.desk c.loop-number.desk
    c.hear_line.new.desk raw reads (search rules) c.loop-number.invariant

pub returns-then-not-branch : goal.returns-then-not-branch
returns-then-not-branch g c =
    let left = g.R.Read.remaining c.loop-number.input in
    let next = g.R.Read.remaining c.read_text.new.input in
    let raw = c.read_text.new.buffer.items in
    let reads = subst (λ (b : Bool). IfSome left (ReadsNext b raw next)) c.if-not-branch.true c.in_ok-read_text.ensures in
    let so_far = c.loop-number.invariant in record {
      lines = so_far.lines;
      read = read_all (g.R.Read.remaining c.args.input.now) left next raw so_far.lines reads so_far.read;
      heard = so_far.heard;
    }
