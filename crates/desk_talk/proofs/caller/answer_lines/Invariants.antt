use Rattle.std.proofs.Common.{◌≡◌}
use Rattle.desk_talk.proofs.caller.answer_lines.Given as goal
use Rattle.desk_talk.specs.Seat.{own_parts}

abbrev pub invariant-loop : goal.invariant-loop
invariant-loop g l = own_parts l.caller.seat ≡ own_parts l.initial.caller.seat
