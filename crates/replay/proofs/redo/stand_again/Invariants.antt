use Rattle.std.proofs.Common.{◌≡◌, ◌≤◌, take}
use Rattle.replay.specs.Redoing.{redo_all, new_standing, standing_by, stood}
use Rattle.replay.proofs.redo.stand_again.Given as goal

abbrev pub invariant-loop-deed : goal.invariant-loop-deed
invariant-loop-deed g l = record {
  venue : l.venue ≡ stood l.fn.venue
      (redo_all l.fn.venue.from_exchange (new_standing l.max_number l.next) (take l.deed-index l.deeds));
  mark : standing_by l.mark l.venue
      ≡ redo_all l.fn.venue.from_exchange (new_standing l.max_number l.next) (take l.deed-index l.deeds);
  few : l.mark.since ≤ l.deed-index;
}
