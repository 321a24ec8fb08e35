use Rattle.std.proofs.Common.{◌≡◌, take}
use Rattle.session_core.specs.Decision.{logged}
use Rattle.session_core.proofs.commit.spend.Given as goal

abbrev pub invariant-loop-line : goal.invariant-loop-line
invariant-loop-line l = l.log ≡ record l.initial.log {
  entries = logged l.initial.log.entries (take l.line-index
      l.lines);
}
