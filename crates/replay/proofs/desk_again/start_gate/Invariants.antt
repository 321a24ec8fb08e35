use Rattle.std.proofs.Common.{◌≡◌, ◌+◌}
use Rattle.sweep_release.specs.declared.gate.Gate.TheVariants.{Down}
use Rattle.sweep_release.specs.Desk.{venue_at}
use Rattle.replay.proofs.OpenDesks.{at_left}
use Rattle.replay.proofs.desk_again.start_gate.Given as goal

abbrev pub invariant-loop : goal.invariant-loop
invariant-loop l =
    l.desk.desk ≡ at_left l.venue Down ((venue_at l.fn.desk.desk l.venue).left + l.counter) l.fn.desk.desk
