use Rattle.std.proofs.Common.{rules}
use Rattle.std.specs.Prelude.{string_bytes}
use Rattle.desk_json.specs.Sweeps.{sweep_json}
use Rattle.desk_json.proofs.PartedWritten.{parted_more}
use Rattle.desk_json.proofs.sweeps_written.write_sweeps.Goals as goal

pub loop-sweep-preserved : goal.loop-sweep-preserved
loop-sweep-preserved c = record {
  text = parted_more sweep_json c.args.sweeps.now c.loop-sweep.sweep-index _ c.loop-sweep.mark.now _
      (string_bytes c.loop-sweep.text) (string_bytes c.write_sweep.new.text) c.loop-sweep-test.true
      c.loop-sweep.invariant.text c.in_ok-write_sweep.ensures;
  utf8 = search rules;
}
