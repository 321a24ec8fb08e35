use Rattle.std.proofs.Common.{◌∷◌, [], arith}
use Rattle.std.proofs.lemmas.List.{length-append}
use Rattle.std.proofs.lemmas.List.Elements.{All-push}
use Rattle.release_lock.specs.Queues.{IsFresh}
use Rattle.release_lock.proofs.venue_rings.rings.Goals as goal

pub loop-preserved : goal.loop-preserved
loop-preserved c =
    let made = c.in_ok-pair.ensures in
    let so_far = c.loop.invariant in
    let count = so_far.0 in
    rw c.in_ok-push_back.ensures.items (
      omega (arith, count, length-append c.loop.rings.items (c.in_ok-pair.field-0 ∷ [])),
      All-push IsFresh c.loop.rings.items c.in_ok-pair.field-0 so_far.1
          (record { one_ring = made.ring.0; room = made.ring.1; pushed = made.legs.0; popped = made.legs.1 }),
    )
