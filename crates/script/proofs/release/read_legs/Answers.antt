use Rattle.std.proofs.Common.{◌≡◌, refl}
use Rattle.script.proofs.LegsSoFar.{leg_behind, leg_read}
use Rattle.script.proofs.release.read_legs.Goals as goal

pub loop-legs-preserved : goal.loop-legs-preserved
loop-legs-preserved c =
    let next =
    leg_behind c.loop-legs.venue.now c.in-Some.plus.now c.in_ok-venue.venue.now c.loop-legs.words c.read_leg.new.words c.next.new.self c.next_venue.new.words
    c.in_ok-ok_or.field-0 c.read_leg.result _
    c.read_leg.ensures.leg c.in_ok-ok_or.ensures.ok_part c.in-Some.ensures.first c.next_venue.ensures.legs (rw c.in_ok-venue.ensures.ok_part refl) in
    leg_read c.loop-legs.legs.is_refused c.keep.new.self.is_refused c.loop-legs.legs.items.items c.keep.new.self.items.items c.in_ok-ok_or.field-0 _ _ _
    next c.keep.ensures.items c.keep.ensures.before c.loop-legs.invariant
