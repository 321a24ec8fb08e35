use Rattle.std.proofs.Common.{◌≡◌, ◌≤◌, ◌+◌, ℕ, List, length, sym, ap, refl, ◌∙◌, arith}
use Rattle.std.proofs.lemmas.List.{length-map}
use Rattle.leg.specs.declared.leg.Leg.{Leg}
use Rattle.sweep_release.specs.Released.{released}
use Rattle.schedule.specs.World.{Frame}
use Rattle.world_restart.proofs.Places.{get_within}
use Rattle.replay.proofs.StoodAgain.{rules_kept, all_gone, frames_count}
use Rattle.replay.proofs.ruling.broken_rule.Goals as goal

pub returns : goal.returns
returns g c =
    let w = c.args.world.now in
    let v = c.args.venue in
    let mark = c.args.mark.now in
    let found = get_within w.venues v c.requires in
    let many : length c.frames_to.result.now ≡ length found.0.to_exchange =
    frames_count w v found.0 found.1 c.frames_to.ensures.0 c.frames_to.result.now c.frames_to.ensures.1 in
    let legs : length c.released-released.result.now ≡ length (released v c.args.desk.now.desk.sweeps) =
    ap length c.released-released.ensures in
    let wire = c.if-frames_to-reached.false in
    let one = c.if-mark-released.false in
    let two = c.if-mark-released-2.false in
    rules_kept w v found.0 found.1 mark c.args.reached (mark.started + mark.since) c.args.gone.now
    c.args.desk.now.desk.sweeps (omega (arith, many, wire)) (omega (arith, legs, one, two)) refl
    (all_gone w v (mark.started + mark.since) c.loop-ordinal.ordinal-index c.args.gone.now
    (let over = c.loop-ordinal-test.false in omega (arith, over)) c.loop-ordinal.invariant)
