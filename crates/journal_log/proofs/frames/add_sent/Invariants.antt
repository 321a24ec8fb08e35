use Rattle.std.proofs.Common.{◌≡◌, ◌++◌, map, take}
use Rattle.journal_log.specs.Logged.{sent_lines}
use Rattle.journal_log.proofs.frames.add_sent.Given as goal

abbrev pub invariant-loop-frame : goal.invariant-loop-frame
invariant-loop-frame l =
    l.log.items ≡ l.initial.log.items ++ sent_lines l.stamp (map (λ v. v.items) (take l.frame-index l.frame-items))
