use Rattle.std.proofs.Common.{◌≡◌, ◌<◌, length, true≢false, sym, refl, arith}
use Rattle.release_lock.specs.Queues.{placed_from}
use Rattle.release_lock.proofs.LeftLegs.{length-placed_from}
use Rattle.release_lock.proofs.TakenLegs.{longer, prefix_from_take, begins_on, begins_wrong}
use Rattle.release_lock.proofs.checking.begins.Goals as goal

pub returns-then-taken-released : goal.returns-then-taken-released
returns-then-taken-released c = (
  (λ t. absurd (true≢false (sym t))),
  λ p.
      let long = longer c.args.taken.now (placed_from 1 c.args.released.now) p in
      let same = length-placed_from 1 c.args.released.now in
      absurd (omega (arith, long, same, c.if-taken-released.true)),
)

pub returns-then-not-is_placed : goal.returns-then-not-is_placed
returns-then-not-is_placed c =
    let in_taken : c.loop-place.place < length c.args.taken.now = omega (arith, c.loop-place-test.true) in
    let in_released : c.loop-place.place < length c.args.released.now
    = omega (arith, c.loop-place-test.true, c.if-taken-released.false) in (
      (λ t. absurd (true≢false (sym t))),
      λ p. absurd (begins_wrong c.args.taken.now c.args.released.now c.loop-place.place c.index-taken-place.result
          c.index-released-place.result in_taken in_released c.index-taken-place.is c.index-released-place.is
          (λ same. true≢false (sym (c.if-not-is_placed.ensures.1 same))) p),
    )

pub loop-place-preserved : goal.loop-place-preserved
loop-place-preserved c =
    let in_taken : c.loop-place.place < length c.args.taken.now = omega (arith, c.loop-place-test.true) in
    let in_released : c.loop-place.place < length c.args.released.now
    = omega (arith, c.loop-place-test.true, c.if-taken-released.false) in
    begins_on c.args.taken.now c.args.released.now c.loop-place.place c.index-taken-place.result
    c.index-released-place.result in_taken in_released c.index-taken-place.is c.index-released-place.is
    (c.if-not-is_placed.ensures.0 refl) c.loop-place.invariant

pub returns : goal.returns
returns c = (
  (λ _.
      prefix_from_take c.args.taken.now (placed_from 1 c.args.released.now)
      (let e : c.loop-place.place ≡ length c.args.taken.now = omega arith in rw e at c.loop-place.invariant)),
  λ _. refl,
)
