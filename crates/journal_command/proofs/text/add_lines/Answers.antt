use Rattle.std.proofs.Common.{ℕ, ◌+◌, List, ◌++◌, ap, ◌∙◌}
use Rattle.journal_command.specs.Shown.{line_shown}
use Rattle.journal_command.proofs.Lines.{lines_step}
use Rattle.journal_command.proofs.text.add_lines.Goals as goal

pub loop-line-preserved : goal.loop-line-preserved
loop-line-preserved c =
    let here = c.loop-line in
    let counted = ap (λ (n : ℕ). n + 1) here.invariant.counted in
    record {
      counted = counted;
      shown = lines_step c.args.text.now.items here.text.items c.add_line.new.text.items c.args.lines.now
          c.line-item.result here.line-index (here.number + 1) c.loop-line-test.true c.line-item.is counted
          here.invariant.shown
          (c.in_ok-add_line.ensures
          ∙ ap (λ (l : List ℕ). here.text.items ++ line_shown (here.number + 1) l) c.as_slice.ensures.value);
    }
