use Rattle.std.proofs.Common.{◌≡◌, take}
use Rattle.session_core.specs.Session.{new_session}
use Rattle.journal_log.proofs.Printed.{Waits}
use Rattle.journal_log.proofs.printing.print_lines.Given as goal

abbrev pub invariant-loop-line : goal.invariant-loop-line
invariant-loop-line g l =
    (l.number ≡ l.line-index)
    × Waits (g.D.Dialect.wording l.dialect) (new_session l.fn.config) l.head (take l.line-index l.lines) l.log.items
    l.session (g.W.Write.contents l.initial.out) (g.W.Write.contents l.out)
