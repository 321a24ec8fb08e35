use Rattle.std.proofs.Common.{◌≡◌, [], take, drop}
use Rattle.sweep_release.specs.Desk.{backlog_refusal}
use Rattle.sweep_release.proofs.refusing.first_full.Given as goal

abbrev pub invariant-loop-at : goal.invariant-loop-at
invariant-loop-at l = backlog_refusal l.desk.desk (take l.at l.legs) (drop l.at l.legs) ≡ backlog_refusal l.desk.desk [] l.legs
