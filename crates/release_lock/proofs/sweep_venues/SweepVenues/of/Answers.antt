use Rattle.std.proofs.Common.{◌≡◌, ◌<◌, true, sym, ◌∙◌, arith}
use Rattle.std.proofs.lemmas.List.{length-set}
use Rattle.release_lock.proofs.SweepVenues.{marks_more}
use Rattle.release_lock.proofs.sweep_venues.SweepVenues.of.Goals as goal

pub loop-routed-preserved : goal.loop-routed-preserved
loop-routed-preserved c =
    let so_far = c.loop-routed.invariant in
    let same : c.from.result ≡ c.routed-item.result.venue = c.from.ensures ∙ c.number.ensures.value in
    let high = c.number.ensures.in_range.high in
    let low : c.routed-item.result.venue < 16 = omega (arith, high) in (
      length-set c.loop-routed.marks c.from.result true ∙ so_far.0,
      rw same (marks_more c.loop-routed.marks c.args.legs.now c.loop-routed.routed-index c.routed-item.result so_far.0 low
          (omega (arith, c.loop-routed-test.true)) (sym c.routed-item.is) so_far.1),
    )
