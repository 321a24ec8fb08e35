use Rattle.std.proofs.Common.{◌≡◌, ◌<◌, ◌+◌, List, length, sym, ap, subst, ◌∙◌, arith}
use Rattle.leg.specs.declared.leg.Leg.{Leg}
use Rattle.schedule.specs.World.{released_to, state_of}
use Rattle.world_restart.proofs.Places.{get_within}
use Rattle.event_text.specs.Deeds.{is_settled}
use Rattle.event_text.specs.Step.{settled_from}
use Rattle.event_text.proofs.SaidMore.{settled_end, settled_next, settled_stops}
use Rattle.event_text.proofs.settled.settled_count.Goals as goal

pub loop-at-preserved : goal.loop-at-preserved
loop-at-preserved g c =
    let w = c.args.world.now in
    let v = c.args.venue in
    let legs = released_to w v in
    let at = c.loop-at.at in
    let count = ap length c.released-legs.ensures in
    let low = c.loop-at-test.true in
    let within : at < length legs = omega (arith, low, count) in
    settled_next (state_of w v) at legs (get_within legs at within).0 within (settled_from w v 0)
    (sym (c.has_settled.ensures ∙ ap is_settled c.state.ensures) ∙ c.if-not-has_settled.false) c.loop-at.invariant

pub returns-then-not-has_settled : goal.returns-then-not-has_settled
returns-then-not-has_settled g c =
    let w = c.args.world.now in
    let v = c.args.venue in
    let legs = released_to w v in
    let at = c.loop-at.at in
    let count = ap length c.released-legs.ensures in
    let low = c.loop-at-test.true in
    let within : at < length legs = omega (arith, low, count) in
    settled_stops (state_of w v) at legs (get_within legs at within).0 within (settled_from w v 0)
    (sym (c.has_settled.ensures ∙ ap is_settled c.state.ensures) ∙ c.if-not-has_settled.true) c.loop-at.invariant

pub returns : goal.returns
returns g c =
    let w = c.args.world.now in
    let v = c.args.venue in
    let at = c.loop-at.at in
    let count = ap length c.released-legs.ensures in
    let over = c.loop-at-test.false in
    let within = c.loop-at.auto.at-end in
    let before = c.loop-at.invariant in
    let none = settled_end (state_of w v) (at + 1) at (released_to w v) (omega (arith, over, count)) in
    omega (arith, over, within, count, none, before)
