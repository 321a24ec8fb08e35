use Rattle.std.proofs.Common.{◌≡◌, take}
use Rattle.sweep_release.specs.Kept.{IsEnqueued}
use Rattle.sweep_release.proofs.enqueue.enqueue.Given as goal

abbrev pub invariant-loop-routed : goal.invariant-loop-routed
invariant-loop-routed l = record {
  place : l.place ≡ l.routed-index;
  joined : IsEnqueued l.number (take l.routed-index l.legs) l.initial.venues.items l.venues.items;
}
