use Rattle.std.proofs.Common.{◌≡◌, ◌∙◌, sym, ap}
use mathlib.Core.List.{IsPrefix}
use Rattle.sweep_release.specs.Desk.{venue_at}
use Rattle.release_lock.specs.Queues.{DrainParts, released_to, left_to}
use Rattle.release_lock.proofs.TakenLegs.{prefix_take}
use Rattle.release_lock.proofs.checking.took_first.Goals as goal

pub returns-then-eq-clause-whole : goal.returns-then-eq-clause-whole
returns-then-eq-clause-whole g c = λ _.
    let desk = c.args.desk.now.desk in
    let venue = c.args.venue in
    let popped = c.drain.inside.drain.legs in
    let in_feed : IsPrefix popped c.args.feed.legs = c.agree.ensures in
    let in_left : IsPrefix popped (left_to desk venue) = rw c.requires.fed.legs at in_feed in
    let whole : IsPrefix popped (released_to desk venue)
    = prefix_take popped (released_to desk venue) (venue_at desk venue).left in_left in
    let took : c.as_slice.result.now ≡ popped
    = c.as_slice.ensures.value ∙ (c.end.invariant ∙ ap (λ (d : DrainParts). d.popped) (sym c.drain.view_is)) in
    c.begins-took.ensures.1 (rw (took, c.released.ensures) whole)
