use Rattle.std.proofs.Common.{◌≡◌, List, [], refl, subst, ◌∙◌}
use Rattle.leg.specs.LegId.{LegIdParts}
use Rattle.session_worker.specs.Linking.{WorkerStateParts, beside_shares, asked_too}
use Rattle.session_worker.specs.Withdrawing.{WithdrawsAll}
use Rattle.session_worker.proofs.Steps.{still_here, still_on}
use Rattle.session_worker.proofs.Withdrawals.{withdraws_more, withdraws_all, asks_none, asks_more, asks_all}
use Rattle.session_worker.proofs.worker_state.WorkerState.withdraw_all.Goals as goal

pub loop-id-init : goal.loop-id-init
loop-id-init g c = (still_here _, refl, asks_none _, refl)

pub loop-id-preserved : goal.loop-id-preserved
loop-id-preserved g c =
    let a : WorkerStateParts = c.args.self.now in
    let b : WorkerStateParts = c.loop-id.self in
    let d : WorkerStateParts = c.withdraw.new.self in
    let so_far = c.loop-id.invariant in (
      still_on a.io b.io d.io [] [] so_far.0 c.withdraw.ensures.io,
      c.withdraw.ensures.took ∙ so_far.1,
      asks_more c.deref-id-items.result.now c.loop-id.id-index c.id-item.result c.loop-id-test.true c.id-item.is
          (beside_shares a.seat) (beside_shares b.seat) (beside_shares d.seat) so_far.2 c.withdraw.ensures.seat,
      withdraws_more c.deref-id-items.result.now c.loop-id.id-index c.id-item.result c.loop-id-test.true c.id-item.is
          a b d so_far.3 c.withdraw.ensures.counted,
    )

pub returns-clause-io : goal.returns-clause-io
returns-clause-io g c = c.loop-id.invariant.0

pub returns-clause-counted : goal.returns-clause-counted
returns-clause-counted g c =
    let a : WorkerStateParts = c.args.self.now in
    let b : WorkerStateParts = c.loop-id.self in
    subst (λ (ids : List LegIdParts). WithdrawsAll ids a b) (c.deref-id-items.ensures.value ∙ c.into_vec-ids.ensures)
    (withdraws_all c.deref-id-items.result.now c.loop-id.id-index a b c.loop-id-test.false c.loop-id.invariant.3)

pub returns-clause-seat : goal.returns-clause-seat
returns-clause-seat g c =
    let a : WorkerStateParts = c.args.self.now in
    let b : WorkerStateParts = c.loop-id.self in
    subst (λ (ids : List LegIdParts). beside_shares b.seat ≡ asked_too ids (beside_shares a.seat))
    (c.deref-id-items.ensures.value ∙ c.into_vec-ids.ensures)
    (asks_all c.deref-id-items.result.now c.loop-id.id-index (beside_shares a.seat) (beside_shares b.seat)
    c.loop-id-test.false c.loop-id.invariant.2)
