use Rattle.std.proofs.Common.{get_or}
use Rattle.std.proofs.lemmas.Option.{slice_get-get_or}
use Rattle.session_worker.specs.Restoring.{TakesMore}
use Rattle.day_restart.proofs.Places.{takes_none, takes_on, zip_refl, zip_set}
use Rattle.day_restart.proofs.desk_past.take_each.Goals as goal
use Rattle.std.proofs.Common.{arith}

pub loop-place-init : goal.loop-place-init
loop-place-init g c = zip_refl TakesMore takes_none c.args.starts.now

pub loop-place-preserved : goal.loop-place-preserved
loop-place-preserved g c =
    let now = c.loop-place.starts in
    let place = c.loop-place.place in
    let start = get_or now place c.index-starts-place.result in
    let next = c.take_to.new.self in
    zip_set TakesMore c.args.starts.now now place start next c.loop-place.invariant
    (slice_get-get_or now place c.index-starts-place.result (omega (arith, c.loop-place-test.true)))
    (λ x takes. takes_on x start next takes c.take_to.ensures)
