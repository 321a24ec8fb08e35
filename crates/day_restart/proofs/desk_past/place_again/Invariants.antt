use Rattle.std.proofs.Common.{◌≡◌, map, take}
use Rattle.std.specs.List.{AllZip}
use Rattle.session_worker.specs.Restoring.{TakesMore}
use Rattle.day_restart.specs.Placing.{ArePlaced, parts_of}
use Rattle.day_restart.proofs.desk_past.place_again.Given as goal

abbrev pub invariant-loop-place : goal.invariant-loop-place
invariant-loop-place g l = record {
  placed : ArePlaced l.names (map (λ v. v.items) (take l.place l.lines)) l.desk.desk (parts_of l.again);
  starts : AllZip TakesMore l.initial.starts l.starts;
  seat : l.seat.parts ≡ l.initial.seat.parts;
}
