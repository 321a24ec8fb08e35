use Rattle.std.proofs.Common.{rules, ◌≡◌, ◌+◌, ◌<◌, List, [], ◌∷◌, ◌++◌, length, get_or, Option, Some, None, sym, ap, subst, ◌∙◌}
use Rattle.leg.specs.declared.leg.Leg.{Leg}
use Rattle.leg.specs.declared.leg_state.LegState.{LegState}
use Rattle.leg.specs.declared.leg_state.LegState.TheVariants.{Queued, Doubt, Taken, Withdrawn}
use Rattle.schedule.specs.World.{released_to, state_of, is_withdrawn_leg, is_leg_in_doubt, withdrawn_ids, doubtful_ids}
use Rattle.world_text.proofs.NamedLegs.{further}
use Rattle.world_text.proofs.legs_by_state.legs_by_state.Goals as goal
use Rattle.world_text.proofs.legs_by_state.legs_by_state.Goals.{in-Some-Withdrawn+in_ok-push-in-Some-Withdrawn, in-Some-Doubt+in_ok-push-in-Some-Doubt, in-Some-Queued, in-Some-Taken, in-None}

pub loop-at-preserved : goal.loop-at-preserved
loop-at-preserved g c =
    let w = c.args.world.now in
    let v = c.args.venue in
    let legs = released_to w v in
    let at = c.loop-at.at in
    let leg = c.leg-item.result in
    let gone = c.loop-at.withdrawn.items in
    let unsure = c.loop-at.in_doubt.items in
    let there : at < length legs = subst (λ (l : List Leg). at < length l) c.released-leg-items.ensures c.loop-at-test.true in
    let is : leg ≡ get_or legs at leg = c.leg-item.is ∙ ap (λ (l : List Leg). get_or l at leg) c.released-leg-items.ensures in
    elim c.match-state.branch [
      | in-Some-Withdrawn+in_ok-push-in-Some-Withdrawn x ↦
          (let state : state_of w v (at + 1) ≡ Some Withdrawn = search rules in
          let pushed : c.match-state.withdrawn.items ≡ gone ++ leg.id ∷ [] = search rules in
          let same : c.match-state.in_doubt.items ≡ unsure = cc in
          record {
            withdrawn = further is_withdrawn_leg (state_of w v) legs at leg gone _ (withdrawn_ids w v) (Some Withdrawn) there is state pushed c.loop-at.invariant.withdrawn;
            in_doubt = further is_leg_in_doubt (state_of w v) legs at leg unsure _ (doubtful_ids w v) (Some Withdrawn) there is state same c.loop-at.invariant.in_doubt;
          })
      | in-Some-Doubt+in_ok-push-in-Some-Doubt x ↦
          (let state : state_of w v (at + 1) ≡ Some Doubt = search rules in
          let same : c.match-state.withdrawn.items ≡ gone = cc in
          let pushed : c.match-state.in_doubt.items ≡ unsure ++ leg.id ∷ [] = search rules in
          record {
            withdrawn = further is_withdrawn_leg (state_of w v) legs at leg gone _ (withdrawn_ids w v) (Some Doubt) there is state same c.loop-at.invariant.withdrawn;
            in_doubt = further is_leg_in_doubt (state_of w v) legs at leg unsure _ (doubtful_ids w v) (Some Doubt) there is state pushed c.loop-at.invariant.in_doubt;
          })
      | in-Some-Queued x ↦
          (let state : state_of w v (at + 1) ≡ Some Queued = search rules in
          let same : c.match-state.withdrawn.items ≡ gone = cc in
          let alike : c.match-state.in_doubt.items ≡ unsure = cc in
          record {
            withdrawn = further is_withdrawn_leg (state_of w v) legs at leg gone _ (withdrawn_ids w v) (Some Queued) there is state same c.loop-at.invariant.withdrawn;
            in_doubt = further is_leg_in_doubt (state_of w v) legs at leg unsure _ (doubtful_ids w v) (Some Queued) there is state alike c.loop-at.invariant.in_doubt;
          })
      | in-Some-Taken x ↦
          (let state : state_of w v (at + 1) ≡ Some Taken = search rules in
          let same : c.match-state.withdrawn.items ≡ gone = cc in
          let alike : c.match-state.in_doubt.items ≡ unsure = cc in
          record {
            withdrawn = further is_withdrawn_leg (state_of w v) legs at leg gone _ (withdrawn_ids w v) (Some Taken) there is state same c.loop-at.invariant.withdrawn;
            in_doubt = further is_leg_in_doubt (state_of w v) legs at leg unsure _ (doubtful_ids w v) (Some Taken) there is state alike c.loop-at.invariant.in_doubt;
          })
      | in-None x ↦
          (let state : state_of w v (at + 1) ≡ None = search rules in
          let same : c.match-state.withdrawn.items ≡ gone = cc in
          let alike : c.match-state.in_doubt.items ≡ unsure = cc in
          record {
            withdrawn = further is_withdrawn_leg (state_of w v) legs at leg gone _ (withdrawn_ids w v) None there is state same c.loop-at.invariant.withdrawn;
            in_doubt = further is_leg_in_doubt (state_of w v) legs at leg unsure _ (doubtful_ids w v) None there is state alike c.loop-at.invariant.in_doubt;
          })
    ]
