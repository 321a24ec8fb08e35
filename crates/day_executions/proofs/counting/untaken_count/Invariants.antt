use Rattle.std.proofs.Common.{◌≡◌, ◌+◌, ◌≤◌, length, drop}
use Rattle.std.specs.Prelude.{filter}
use Rattle.day_executions.specs.Counts.{is_for, untaken_count}
use Rattle.day_executions.proofs.counting.untaken_count.Given as goal

abbrev pub invariant-loop-item : goal.invariant-loop-item
invariant-loop-item l = record {
  counted : l.count + length (filter (is_for l.place l.why) (drop l.item-index l.unbooked))
      ≡ untaken_count l.place l.why l.unbooked;
  few : l.count ≤ l.item-index;
}
