use Rattle.std.proofs.Common.{rules, ◌++◌, ap, ◌∙◌}
use Rattle.std.specs.Prelude.{string_bytes}
use Rattle.sweep_text.specs.Written.{leg_text}
use Rattle.sweep_text.proofs.LegsWritten.{legs_more}
use Rattle.sweep_text.proofs.write.write_sweep.Goals as goal

pub loop-leg-preserved : goal.loop-leg-preserved
loop-leg-preserved c =
    let names = c.args.names.now in
    let before = string_bytes c.loop-leg.text in
    let mark = c.loop-leg.mark.now in
    record {
      line = legs_more names c.args.legs.now c.loop-leg.leg-index c.leg-item.result mark _ before
          (string_bytes c.write_leg.new.text) c.loop-leg-test.true c.loop-leg.invariant.line
          (c.in_ok-write_leg.ensures ∙ ap (λ leg. (before ++ mark) ++ leg_text names leg) c.leg-item.is);
      utf8 = search rules;
    }
