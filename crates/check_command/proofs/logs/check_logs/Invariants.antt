use Rattle.std.proofs.Common.{drop, map}
use Rattle.check_command.specs.Runs.{ChecksLogs}
use Rattle.check_command.proofs.logs.check_logs.Given as goal

abbrev pub invariant-loop-path : goal.invariant-loop-path
invariant-loop-path g l =
    ChecksLogs l.request l.is_of_day (map (λ path. path.now) (drop l.path-index l.request.paths.items))
    (g.W.Write.contents l.initial.out) (g.W.Write.contents l.out) l.day
