-- What a worker counts of the legs that it asks the book to withdraw.
use Rattle.std.specs.Prelude.{◌≡◌, ◌⊎◌, ◌+◌, min, List, [], ◌∷◌, ◌++◌}
use Rattle.leg.specs.LegId.{LegIdParts}
use Rattle.exec_collector.specs.Resolved.{GainsLeg}
use Rattle.session_worker.specs.declared.withdrawal_counts.WithdrawalCounts.{WithdrawalCounts}
use Rattle.session_worker.specs.Linking.{WorkerStateParts}

-- one more was withdrawn, up to the greatest number of the count's type
abbrev pub one_done : WithdrawalCounts → WithdrawalCounts
one_done w = record w { done = min (w.done + 1) 18446744073709551615 }

-- one more was refused
abbrev pub one_refused : WithdrawalCounts → WithdrawalCounts
one_refused w = record w { refused = min (w.refused + 1) 18446744073709551615 }

-- the book was asked to withdraw a leg. It did: the seat gained the leg's shares, and one more is counted as withdrawn.
-- Or it refused: the seat has the shares that it had, and one more is counted as refused
abbrev pub Withdraws : LegIdParts → WorkerStateParts → WorkerStateParts → Type 0
Withdraws id before after =
    (after.seat.asked ≡ before.seat.asked ++ id ∷ [])
    × ((GainsLeg id before.seat.shares after.seat.shares × (after.withdrawn ≡ one_done before.withdrawn))
    ⊎ ((after.seat.shares ≡ before.seat.shares) × (after.withdrawn ≡ one_refused before.withdrawn)))

-- legs were withdrawn so, one after the other
abbrev pub WithdrawsAll : List LegIdParts → WorkerStateParts → WorkerStateParts → Type 0
WithdrawsAll [] before after = after ≡ before
WithdrawsAll (id ∷ ids) before after =
    (next : WorkerStateParts) × Withdraws id before next × WithdrawsAll ids next after
