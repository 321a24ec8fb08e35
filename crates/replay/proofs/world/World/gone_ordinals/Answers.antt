use Rattle.std.proofs.Common.{rules, ◌≡◌, ◌+◌, ◌<◌, ◌++◌, [], ◌∷◌, List, length, Some, None, subst}
use Rattle.leg.specs.declared.leg.Leg.{Leg}
use Rattle.leg.specs.declared.leg_state.LegState.TheVariants.{Queued, Doubt, Taken, Withdrawn}
use Rattle.schedule.specs.World.{released_to, state_of}
use Rattle.replay.specs.Ruling.{gone_ordinals}
use Rattle.replay.proofs.StoodAgain.{gone_further}
use Rattle.replay.proofs.world.World.gone_ordinals.Goals as goal
use Rattle.replay.proofs.world.World.gone_ordinals.Goals.{in-Some-Withdrawn+in_ok-push-in-Some-Withdrawn, in-Some-Queued, in-Some-Doubt, in-Some-Taken, in-None}

pub loop-at-preserved : goal.loop-at-preserved
loop-at-preserved g c =
    let w = c.args.self.now in
    let v = c.args.venue in
    let legs = released_to w v in
    let at = c.loop-at.at in
    let gone = c.loop-at.gone.items in
    let low : at < length legs =
    subst (λ (l : List Leg). at < length l) c.released-at-end.ensures c.loop-at-test.true in
    elim c.match-state.branch [
      | in-Some-Withdrawn+in_ok-push-in-Some-Withdrawn x ↦
          (let state : state_of w v (at + 1) ≡ Some Withdrawn = search rules in
          let pushed : c.match-state.gone.items ≡ gone ++ (at + 1) ∷ [] = search rules in
          gone_further (state_of w v) legs at gone _ (gone_ordinals w v) (Some Withdrawn) low state pushed
          c.loop-at.invariant)
      | in-Some-Queued x ↦
          (let state : state_of w v (at + 1) ≡ Some Queued = search rules in
          let same : c.match-state.gone.items ≡ gone = search rules in
          gone_further (state_of w v) legs at gone _ (gone_ordinals w v) (Some Queued) low state same
          c.loop-at.invariant)
      | in-Some-Doubt x ↦
          (let state : state_of w v (at + 1) ≡ Some Doubt = search rules in
          let same : c.match-state.gone.items ≡ gone = search rules in
          gone_further (state_of w v) legs at gone _ (gone_ordinals w v) (Some Doubt) low state same
          c.loop-at.invariant)
      | in-Some-Taken x ↦
          (let state : state_of w v (at + 1) ≡ Some Taken = search rules in
          let same : c.match-state.gone.items ≡ gone = search rules in
          gone_further (state_of w v) legs at gone _ (gone_ordinals w v) (Some Taken) low state same
          c.loop-at.invariant)
      | in-None x ↦
          (let state : state_of w v (at + 1) ≡ None = search rules in
          let same : c.match-state.gone.items ≡ gone = search rules in
          gone_further (state_of w v) legs at gone _ (gone_ordinals w v) None low state same c.loop-at.invariant)
    ]
