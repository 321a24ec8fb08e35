use Rattle.std.proofs.Common.{◌++◌, ap, ◌∙◌, codes}
use Rattle.std.specs.Prelude.{string_bytes}
use Rattle.leg.specs.LegId.{leg_id_text}
use Rattle.desk_news.proofs.LegsWritten.{ids_more}
use Rattle.desk_news.proofs.doubt.doubt_line.Goals as goal

pub loop-leg-preserved : goal.loop-leg-preserved
loop-leg-preserved c =
    let before = string_bytes c.loop-leg.line in
    record {
      line = ids_more c.args.legs.now c.loop-leg.leg-index c.leg-item.result _ before
          (string_bytes c.write_leg.new.line) c.loop-leg-test.true c.loop-leg.invariant.line
          (c.in_ok-write_leg.ensures ∙ ap (λ leg. (before ++ codes " ") ++ leg_id_text leg) c.leg-item.is);
    }
