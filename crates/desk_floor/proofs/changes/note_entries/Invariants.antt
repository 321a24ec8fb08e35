use Rattle.std.proofs.Common.{◌≡◌, ◌≤◌, ◌+◌, ◌++◌, take}
use Rattle.desk_floor.specs.Changes.{changed_in, opened_in}
use Rattle.desk_floor.proofs.changes.note_entries.Given as goal

abbrev pub invariant-loop-entry : goal.invariant-loop-entry
invariant-loop-entry l = record {
  changed : l.sweeps.items ≡ l.initial.sweeps.items ++ changed_in l.before (take l.entry-index l.entries);
  opened : l.after ≡ opened_in l.before (take l.entry-index l.entries);
  most : l.after ≤ l.before + l.entry-index;
}
