use Rattle.std.proofs.Common.{◌≡◌, ◌≤◌, ◌<◌, ◌+◌, ℕ, Bool, length, sym, ap, subst, ◌∙◌, arith}
use Rattle.sweep_release.specs.declared.gate.Gate.{Gate}
use Rattle.sweep_release.specs.declared.gate.Gate.TheVariants.{Down, Shut}
use Rattle.sweep_release.specs.Released.{released}
use Rattle.sweep_release.specs.Desk.{DeskParts, venue_at, placed, drop_next, shut}
use Rattle.world_restart.specs.Start.{gate_started}
use Rattle.replay.proofs.OpenDesks.{at_left, down_is, down_placed, drop_more_left, shut_is}
use Rattle.replay.proofs.desk_again.start_gate.Goals as goal

pub loop-init : goal.loop-init
loop-init c =
    let d = c.args.desk.now.desk in
    let v = c.args.venue in
    let none : (venue_at d v).left ≡ (venue_at d v).left + 0 = omega arith in
    c.gate_down.ensures.desk
    ∙ (down_is d v c.requires.there c.requires.unshut ∙ ap (λ n. at_left v Down n d) none)

pub loop-preserved : goal.loop-preserved
loop-preserved c =
    let d = c.args.desk.now.desk in
    let v = c.args.venue in
    let left = (venue_at d v).left in
    let end = c.placed-end.ensures.value
    ∙ down_placed d c.gate_down.new.self.desk v c.requires.there c.requires.unshut c.gate_down.ensures.desk in
    let all = c.requires.counted.all in
    let low = c.loop-test.true in
    let more : left + c.loop.counter + 1 ≡ left + (c.loop.counter + 1) = omega arith in
    drop_more_left v (left + c.loop.counter) d c.drop_next.new.self.desk c.requires.there
    (omega (arith, end, all, low))
    (c.drop_next.ensures.desk ∙ ap (λ x. (drop_next x v).1) c.loop.invariant)
    ∙ ap (λ n. at_left v Down n d) more

pub returns-then-shut : goal.returns-then-shut
returns-then-shut c =
    let d = c.args.desk.now.desk in
    let v = c.args.venue in
    let left = (venue_at d v).left in
    let end = c.placed-end.ensures.value
    ∙ down_placed d c.gate_down.new.self.desk v c.requires.there c.requires.unshut c.gate_down.ensures.desk in
    let all = c.requires.counted.all in
    let over = c.loop-test.false in
    let within = c.loop.auto.counter-end in
    let count : left + c.loop.counter ≡ length (released v d.sweeps) = omega (arith, end, all, over, within) in
    shut_is v (left + c.loop.counter) d c.shut.new.self.desk c.requires.there
    (c.shut.ensures.desk ∙ ap (λ x. shut x v) c.loop.invariant)
    ∙ (λ i. at_left v (gate_started (sym c.if-shut.true i)) (count i) d)

pub returns-else-shut : goal.returns-else-shut
returns-else-shut c =
    let d = c.args.desk.now.desk in
    let v = c.args.venue in
    let left = (venue_at d v).left in
    let end = c.placed-end.ensures.value
    ∙ down_placed d c.gate_down.new.self.desk v c.requires.there c.requires.unshut c.gate_down.ensures.desk in
    let all = c.requires.counted.all in
    let over = c.loop-test.false in
    let within = c.loop.auto.counter-end in
    let count : left + c.loop.counter ≡ length (released v d.sweeps) = omega (arith, end, all, over, within) in
    c.loop.invariant ∙ (λ i. at_left v (gate_started (sym c.if-shut.false i)) (count i) d)
