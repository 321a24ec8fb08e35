use Rattle.std.proofs.Common.{rules, ◌++◌, ap, ◌∙◌}
use Rattle.std.specs.Prelude.{string_bytes}
use Rattle.desk_json.specs.Legs.{leg_json}
use Rattle.desk_json.proofs.PartedWritten.{parted_more}
use Rattle.desk_json.proofs.legs_written.write_legs.Goals as goal

pub loop-leg-preserved : goal.loop-leg-preserved
loop-leg-preserved c =
    let before = string_bytes c.loop-leg.text in
    let mark = c.loop-leg.mark.now in
    record {
      text = parted_more leg_json c.args.legs.now c.loop-leg.leg-index c.leg-item.result mark _ before
          (string_bytes c.write_leg.new.text) c.loop-leg-test.true c.loop-leg.invariant.text
          (c.in_ok-write_leg.ensures ∙ ap (λ item. (before ++ mark) ++ leg_json item) c.leg-item.is);
      utf8 = search rules;
    }
