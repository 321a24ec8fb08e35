use Rattle.std.proofs.Common.{◌≡◌, [], ◌++◌, drop}
use Rattle.std.specs.Prelude.{string_bytes}
use denote.Shadow.{shadow}
use denote.Text.{Utf8}
use Rattle.desk_json.specs.Parted.{parted}
use Rattle.desk_json.specs.Sweeps.{sweep_json}
use Rattle.desk_json.proofs.sweeps_written.write_sweeps.Given as goal

abbrev pub invariant-loop-sweep : goal.invariant-loop-sweep
invariant-loop-sweep l = record {
  text : string_bytes l.fn.text ++ parted sweep_json [] l.sweeps
      ≡ string_bytes l.text ++ parted sweep_json l.mark (drop l.sweep-index l.sweeps);
  utf8 : shadow (Utf8 l.mark);
}
