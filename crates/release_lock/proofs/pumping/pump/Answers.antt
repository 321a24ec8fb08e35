use Rattle.std.proofs.Common.{◌<◌, length, sym, ◌∙◌, arith}
use Rattle.release_lock.proofs.Leaving.{pumps_on, leaves_fewer}
use Rattle.release_lock.proofs.pumping.pump.Goals as goal

pub loop-leg-smaller : goal.loop-leg-smaller
loop-leg-smaller g c =
    let venues = c.loop-leg.invariant.venues in
    let there = c.requires.there in
    let inside : c.args.venue < length c.loop-leg.desk.desk.venues = omega (arith, venues, there) in
    leaves_fewer c.loop-leg.desk.desk c.let_leave.new.desk.desk c.args.venue c.in-Some.leg inside
    (sym c.next_leg.ensures ∙ c.in-Some.is) c.let_leave.ensures.desk

pub loop-leg-preserved : goal.loop-leg-preserved
loop-leg-preserved g c =
    pumps_on c.args.venue c.args.desk.now c.args.feed.now c.loop-leg.desk c.loop-leg.feed c.in-Some.leg
    c.let_leave.new.desk c.push.new.self c.loop-leg.invariant c.requires.there
    (sym c.next_leg.ensures ∙ c.in-Some.is) c.in-Ok.ensures c.let_leave.ensures.desk c.let_leave.ensures.history
    c.let_leave.ensures.room
