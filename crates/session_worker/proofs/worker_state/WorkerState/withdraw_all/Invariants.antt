use Rattle.std.proofs.Common.{◌≡◌, [], take}
use Rattle.session_worker.specs.Linking.{StandsStill, beside_shares, asked_too}
use Rattle.session_worker.specs.Withdrawing.{WithdrawsAll}
use Rattle.session_worker.proofs.worker_state.WorkerState.withdraw_all.Given as goal

abbrev pub invariant-loop-id : goal.invariant-loop-id
invariant-loop-id g l =
    StandsStill [] l.initial.self.io l.self.io × (l.self.took ≡ l.initial.self.took)
    × (beside_shares l.self.seat ≡ asked_too (take l.id-index l.id-items) (beside_shares l.initial.self.seat))
    × WithdrawsAll (take l.id-index l.id-items) l.initial.self l.self
