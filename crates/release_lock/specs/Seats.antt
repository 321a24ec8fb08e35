-- The seats of the callers.
use Rattle.std.specs.Prelude.{ℕ, suc, ◌+◌, List, [], ◌∷◌, ◌++◌, length, sum_by, IsPermutation}
use Rattle.leg.specs.declared.sweep.Routed.{Routed}
use Rattle.share_ledger.specs.Entries.{sweep_shares}
use Rattle.exec_collector.specs.declared.placed_sweep.PlacedSweep.{PlacedSweep}
use Rattle.exec_collector.specs.Seats.{Seat, new_seat}

-- the first seat of a run has all its parts
abbrev pub first_seat : Seat
first_seat = record new_seat { parts = 1024 }

-- a sweep of these legs that was placed under this number
abbrev pub placing : ℕ → List Routed → PlacedSweep
placing number legs = record { number = number; sweep = record { legs = legs } }

-- the shares of sweeps that were placed
abbrev pub shares_in : List PlacedSweep → ℕ
shares_in placed = sum_by (λ p. sweep_shares p.sweep.legs) placed

-- the shares of the sweeps on these seats
abbrev pub shares_placed : List Seat → ℕ
shares_placed seats = sum_by (λ seat. shares_in seat.placed) seats

-- what a caller's share counts: the shares of the sweeps placed, and one for each sweep
abbrev pub count_in : List PlacedSweep → ℕ
count_in placed = shares_in placed + length placed

-- sweeps that were placed under the numbers from this one on
abbrev pub placings_from : ℕ → List (List Routed) → List PlacedSweep
placings_from number [] = []
placings_from number (legs ∷ sweeps) = placing number legs ∷ placings_from (suc number) sweeps

-- the sweeps of these seats, joined
abbrev pub all_placed : List Seat → List PlacedSweep
all_placed [] = []
all_placed (seat ∷ seats) = seat.placed ++ all_placed seats

-- the sweeps of these seats are those released, each once and under its number, which begin at 1
abbrev pub AreAllPlaced : List Seat → List (List Routed) → Type 0
AreAllPlaced seats sweeps = IsPermutation (placings_from 1 sweeps) (all_placed seats)

-- the count of a desk whose run has no name yet: its name and its parts, and the name of the book of slips
pub record BlankParts : Type 0 where
  pub name : ℕ
  pub parts : ℕ
  pub slips : ℕ
