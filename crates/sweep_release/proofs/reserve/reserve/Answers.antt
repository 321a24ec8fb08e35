use Rattle.std.proofs.Common.{◌<◌, length, refl, arith}
use Rattle.sweep_release.proofs.Reserved.{same_all, same_more, room_more, lacked}
use Rattle.sweep_release.proofs.reserve.reserve.Goals as goal

pub returns-in_err-reserve-clause-same : goal.returns-in_err-reserve-clause-same
returns-in_err-reserve-clause-same c =
    let many = c.loop-at.invariant.same.many in
    let there : c.loop-at.at < length c.loop-at.venues.items =
    omega (arith, c.loop-at-test.true, c.len-at-end.ensures, c.args.venues.now.ok.0, many) in
    same_more c.args.venues.now.items c.loop-at.venues.items c.loop-at.at c.index_mut.result.now _ c.loop-at.invariant.same there c.index_mut.ensures.value
    (record { gate = refl; left = refl; legs = c.reserve.ensures.items; spare = c.reserve.ensures.capacity })

pub loop-at-init : goal.loop-at-init
loop-at-init c = record { same = same_all c.args.venues.now.items; room = λ k other there. absurd (omega (arith, there)) }

pub loop-at-preserved : goal.loop-at-preserved
loop-at-preserved c =
    let many = c.loop-at.invariant.same.many in
    let there : c.loop-at.at < length c.loop-at.venues.items =
    omega (arith, c.loop-at-test.true, c.len-at-end.ensures, c.args.venues.now.ok.0, many) in
    record {
      same = same_more c.args.venues.now.items c.loop-at.venues.items c.loop-at.at c.index_mut.result.now _ c.loop-at.invariant.same there c.index_mut.ensures.value
          (record { gate = refl; left = refl; legs = c.reserve.ensures.items; spare = c.reserve.ensures.capacity });
      room = room_more c.loop-at.venues.items c.loop-at.at c.args.legs _ there c.loop-at.invariant.room c.in_ok-reserve.ensures.ok;
    }

pub returns-in_err-reserve-clause-there : goal.returns-in_err-reserve-clause-there
returns-in_err-reserve-clause-there c = λ have.
    let many = c.loop-at.invariant.same.many in
    let there : c.loop-at.at < length c.args.venues.now.items =
    omega (arith, c.loop-at-test.true, c.len-at-end.ensures, c.args.venues.now.ok.0, many) in
    absurd (lacked c.args.venues.now.items c.loop-at.venues.items c.loop-at.at c.args.legs c.index_mut.result.now
    c.loop-at.invariant.same there c.index_mut.ensures.value c.in_err-reserve.ensures.full have)
