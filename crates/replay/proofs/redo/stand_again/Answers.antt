use Rattle.std.proofs.Common.{◌≡◌, ◌≤◌, ◌<◌, ◌+◌, List, length, take, sym, ap, subst, ◌∙◌, arith}
use Rattle.schedule.specs.World.{VenueParts, Frame}
use Rattle.world_restart.specs.Journal.{Standing}
use Rattle.replay.specs.declared.deed.Deed.{Deed}
use Rattle.replay.specs.Redoing.{redo, redo_all, new_standing, standing_by, stood}
use Rattle.replay.proofs.Redone.{next_redone}
use Rattle.replay.proofs.redo.stand_again.Goals as goal

pub loop-deed-preserved : goal.loop-deed-preserved
loop-deed-preserved g c =
    let l = c.loop-deed in
    let few = c.in_ok-redo.ensures.few in
    let before = l.invariant.few in
    let next = next_redone c.args.venue.now l.venue c.redo.new.venue l.mark c.redo.new.mark
    (new_standing c.args.max_number c.args.next) c.args.deeds.now l.deed-index c.deed-item.result c.loop-deed-test.true
    c.deed-item.is l.invariant.venue l.invariant.mark c.in_ok-redo.ensures.venue c.in_ok-redo.ensures.mark in
    record { venue = next.0; mark = next.1; few = omega arith }
