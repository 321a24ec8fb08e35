use Rattle.std.proofs.Common.{◌≡◌, ◌≤◌, ◌++◌, suc, length, drop}
use Rattle.std.specs.Prelude.{string_bytes}
use Rattle.std.specs.List.{All}
use Rattle.sweep_release.specs.Kept.{released_sweeps}
use Rattle.schedule.specs.Printed.{sweep_lines}
use Rattle.world_text.proofs.print.write_sweeps.Given as goal

abbrev pub invariant-loop-entry : goal.invariant-loop-entry
invariant-loop-entry g l = record {
  passed : l.number ≤ l.entry-index;
  lines : string_bytes l.text ++ sweep_lines l.world (suc l.number) (released_sweeps (drop l.entry-index l.history))
      ≡ string_bytes l.initial.text ++ sweep_lines l.world 1 l.world.desk.sweeps;
  few_legs : All (λ legs. length legs ≤ 32) (released_sweeps (drop l.entry-index l.history));
}
