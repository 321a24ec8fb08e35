use Rattle.std.proofs.Common.{◌≡◌, ◌++◌, map, take}
use Rattle.journal_command.specs.Shown.{lines_shown}
use Rattle.journal_command.proofs.text.add_lines.Given as goal

abbrev pub invariant-loop-line : goal.invariant-loop-line
invariant-loop-line l = record {
  counted : l.number ≡ l.line-index;
  shown : l.text.items ≡ l.fn.text.items ++ lines_shown 1 (map (λ line. line.items) (take l.line-index l.lines));
}
