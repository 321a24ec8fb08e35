use Rattle.std.proofs.Common.{◌∙◌, ap, ◌++◌, sym}
use Rattle.std.specs.Prelude.{Option, option_to_list}
use Rattle.leg.specs.declared.placed_leg.PlacedLeg.{PlacedLeg}
use Rattle.leg.specs.declared.leg_state.LegState.{LegState}
use Rattle.session_core.specs.Session.{leg_state}
use Rattle.desk_day.specs.Doubts.{if_doubt}
use Rattle.desk_day.proofs.LegsInDoubt.{doubts_more}
use Rattle.desk_day.proofs.doubts.legs_in_doubt.Goals as goal

pub loop-placed-preserved : goal.loop-placed-preserved
loop-placed-preserved g c =
    let doubt = λ (placed : PlacedLeg). if_doubt (leg_state c.end.inside.session placed.ordinal) placed.leg.id in
    let placed = c.placed-item.result in
    c.in_ok-push_if_doubt.ensures
    ∙ (ap (λ (state : Option LegState). c.loop-placed.legs.items ++ option_to_list (if_doubt state placed.leg.id)) c.leg_state-state.ensures
    ∙ (ap (λ l. l ++ option_to_list (doubt placed)) c.loop-placed.invariant
    ∙ sym (doubts_more doubt c.taken-taken.result.now c.loop-placed.placed-index placed c.loop-placed-test.true c.placed-item.is)))
