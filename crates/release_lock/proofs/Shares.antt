-- What is counted of sweeps that were placed, as more are.
use Rattle.std.proofs.Common.{◌≡◌, ℕ, suc, ◌+◌, List, [], ◌∷◌, ◌++◌, length, refl, ap, sym, ◌∙◌, subst, arith}
use Rattle.std.specs.Prelude.{IsPermutation, sum_by}
use Rattle.std.proofs.lemmas.List.{append-nil, append_assoc, length-append}
use Rattle.std.proofs.lemmas.List.Sorted.{IsPermutation-refl, IsPermutation-trans, IsPermutation-append, IsPermutation-append_comm, sum_by-IsPermutation, length_permutation}
use Rattle.std.proofs.lemmas.List.Sums.{sum_by_push, sum_by-append, sum_by-cons}
use Rattle.leg.specs.declared.sweep.Routed.{Routed}
use Rattle.share_ledger.specs.Entries.{sweep_shares}
use Rattle.exec_collector.specs.declared.placed_sweep.PlacedSweep.{PlacedSweep}
use Rattle.exec_collector.specs.Seats.{Seat, parts_of, shares_of}
use Rattle.slips.specs.Slips.{AreOf}
use Rattle.sweep_release.specs.Desk.{DeskParts, placed_shares}
use Rattle.release_lock.specs.Locked.{placed_count}
use Rattle.release_lock.specs.Seats.{placing, shares_in, shares_placed, count_in, placings_from, all_placed, AreAllPlaced}

pub shares_push : (placed : List PlacedSweep) (last : PlacedSweep)
    → shares_in (placed ++ last ∷ []) ≡ shares_in placed + sweep_shares last.sweep.legs
shares_push placed last = sum_by_push (λ (p : PlacedSweep). sweep_shares p.sweep.legs) placed last

pub shares_append : (placed more : List PlacedSweep) → shares_in (placed ++ more) ≡ shares_in placed + shares_in more
shares_append placed more = sum_by-append (λ (p : PlacedSweep). sweep_shares p.sweep.legs) placed more

pub count_push : (placed : List PlacedSweep) (last : PlacedSweep)
    → count_in (placed ++ last ∷ []) ≡ count_in placed + sweep_shares last.sweep.legs + 1
count_push placed last =
    let shares = shares_push placed last in
    let long = length-append placed (last ∷ []) in
    omega (arith, shares, long)

pub count_append : (placed more : List PlacedSweep) → count_in (placed ++ more) ≡ count_in placed + count_in more
count_append placed more =
    let shares = shares_append placed more in
    let long = length-append placed more in
    omega (arith, shares, long)

-- one sweep more was released, under the next number
pub placings_push : (number : ℕ) (sweeps : List (List Routed)) (legs : List Routed)
    → placings_from number (sweeps ++ legs ∷ [])
    ≡ placings_from number sweeps ++ placing (length sweeps + number) legs ∷ []
placings_push number [] legs =
    let same : number ≡ length {A = List Routed} [] + number = omega arith in ap (λ n. placing n legs ∷ []) same
placings_push number (first ∷ sweeps) legs =
    let same : length sweeps + suc number ≡ length (first ∷ sweeps) + number = omega arith in
    ap (λ more. placing number first ∷ more)
    (placings_push (suc number) sweeps legs
    ∙ ap (λ n. placings_from (suc number) sweeps ++ placing n legs ∷ []) same)

shares_from : (number : ℕ) (sweeps : List (List Routed))
    → shares_in (placings_from number sweeps) ≡ sum_by sweep_shares sweeps
shares_from number [] = refl
shares_from number (legs ∷ sweeps) =
    sum_by-cons (λ (p : PlacedSweep). sweep_shares p.sweep.legs) (placing number legs) (placings_from (suc number) sweeps)
    ∙ (ap (λ n. sweep_shares legs + n) (shares_from (suc number) sweeps) ∙ sym (sum_by-cons sweep_shares legs sweeps))

length_from : (number : ℕ) (sweeps : List (List Routed)) → length (placings_from number sweeps) ≡ length sweeps
length_from number [] = refl
length_from number (legs ∷ sweeps) = ap suc (length_from (suc number) sweeps)

pub shares_released : (desk : DeskParts) → shares_in (placings_from 1 desk.sweeps) ≡ placed_shares desk
shares_released desk = shares_from 1 desk.sweeps

pub count_released : (desk : DeskParts) → count_in (placings_from 1 desk.sweeps) ≡ placed_count desk
count_released desk =
    let shares = shares_released desk in let long = length_from 1 desk.sweeps in omega (arith, shares, long)

none_left : (placed : List PlacedSweep) → count_in placed ≡ 0 → placed ≡ []
none_left [] none = refl
none_left (first ∷ placed) none = absurd (omega (arith, none))

-- slips that count as much as all that were given are all of them
pub all_there : (given held : List PlacedSweep) → AreOf held given → count_in held ≡ count_in given
    → IsPermutation given held
all_there given held are same =
    let shares = sum_by-IsPermutation (λ (p : PlacedSweep). sweep_shares p.sweep.legs) given (held ++ are.rest) are.all in
    let long = length_permutation given (held ++ are.rest) are.all in
    let counted = count_append held are.rest in
    let none = none_left are.rest (omega (arith, shares, long, counted, same)) in
    subst (IsPermutation given) (ap (λ rest. held ++ rest) none ∙ append-nil held) are.all

-- and their shares are those of all
pub shares_there : (given held : List PlacedSweep) → IsPermutation given held → shares_in held ≡ shares_in given
shares_there given held all = sum_by-IsPermutation (λ (p : PlacedSweep). sweep_shares p.sweep.legs) given held all

-- the sweeps of one seat more
pub all_push : (seats : List Seat) (seat : Seat) → all_placed (seats ++ seat ∷ []) ≡ all_placed seats ++ seat.placed
all_push [] seat = append-nil seat.placed
all_push (first ∷ seats) seat =
    ap (λ more. first.placed ++ more) (all_push seats seat) ∙ sym (append_assoc first.placed (all_placed seats) seat.placed)

-- a seat is joined to those that were taken before it
pub joined : (seats : List Seat) (seat : Seat) (taken whole : List PlacedSweep)
    → IsPermutation (all_placed (seats ++ seat ∷ []) ++ taken) whole
    → IsPermutation (all_placed seats ++ (taken ++ seat.placed)) whole
joined seats seat taken whole so_far =
    IsPermutation-trans (all_placed seats ++ (taken ++ seat.placed)) (all_placed (seats ++ seat ∷ []) ++ taken) whole
    (rw (all_push seats seat, append_assoc (all_placed seats) seat.placed taken)
    (IsPermutation-append (all_placed seats) (all_placed seats) (taken ++ seat.placed) (seat.placed ++ taken)
    (IsPermutation-refl (all_placed seats)) (IsPermutation-append_comm taken seat.placed))) so_far

-- the slips of all seats are those of all sweeps released, where they count as much
pub all_are_placed : (desk : DeskParts) (seats : List Seat) (held given : List PlacedSweep) (amount total : ℕ)
    → given ≡ placings_from 1 desk.sweeps → total ≡ placed_count desk → amount ≡ count_in held → amount ≡ total
    → AreOf held given → IsPermutation held (all_placed seats)
    → AreAllPlaced seats desk.sweeps × (shares_in held ≡ placed_shares desk)
all_are_placed desk seats held given amount total gives counted amounts whole are joins =
    let released = count_released desk in
    let gave = ap count_in gives in
    let all = all_there given held are (omega (arith, released, gave, counted, amounts, whole)) in
    let now = subst (λ (g : List PlacedSweep). IsPermutation g held) gives all in (
      IsPermutation-trans (placings_from 1 desk.sweeps) held (all_placed seats) now joins,
      shares_there (placings_from 1 desk.sweeps) held now ∙ shares_released desk,
    )

-- of these seats that one was taken off the end, and others joined to it before
abbrev pub Taken : List Seat → Seat → List Seat → Type 0
Taken seats all whole =
    (parts_of seats + all.parts ≡ parts_of whole) × (shares_of seats + all.shares ≡ shares_of whole)
    × (shares_placed seats + shares_in all.placed ≡ shares_placed whole)
    × IsPermutation (all_placed seats ++ all.placed) (all_placed whole)

module _ (seats : List Seat) (seat : Seat) (before : List Seat) (is : before ≡ seats ++ seat ∷ []) where
  parts_off : parts_of before ≡ parts_of seats + seat.parts
  parts_off = ap parts_of is ∙ sum_by_push (λ (s : Seat). s.parts) seats seat

  shares_off : shares_of before ≡ shares_of seats + seat.shares
  shares_off = ap shares_of is ∙ sum_by_push (λ (s : Seat). s.shares) seats seat

  placed_off : shares_placed before ≡ shares_placed seats + shares_in seat.placed
  placed_off = ap shares_placed is ∙ sum_by_push (λ (s : Seat). shares_in s.placed) seats seat

  pub takes_first : Taken seats seat before
  takes_first = (
    sym parts_off,
    sym shares_off,
    sym placed_off,
    subst (λ (l : List PlacedSweep). IsPermutation l (all_placed before)) (ap all_placed is ∙ all_push seats seat)
        (IsPermutation-refl (all_placed before)),
  )

  pub takes_next : (all now : Seat) (whole : List Seat) → now.parts ≡ all.parts + seat.parts
      → now.shares ≡ all.shares + seat.shares → now.placed ≡ all.placed ++ seat.placed → Taken before all whole
      → Taken seats now whole
  takes_next all now whole parts shares placed so_far =
      let off = parts_off in let off_shares = shares_off in let off_placed = placed_off in
      let added = ap shares_in placed ∙ shares_append all.placed seat.placed in
      let had = so_far.0 in let had_shares = so_far.1 in let had_placed = so_far.2 in (
        omega (arith, off, parts, had),
        omega (arith, off_shares, shares, had_shares),
        omega (arith, off_placed, added, had_placed),
        subst (λ (l : List PlacedSweep). IsPermutation (all_placed seats ++ l) (all_placed whole)) (sym placed)
            (joined seats seat all.placed (all_placed whole)
            (subst (λ (l : List Seat). IsPermutation (all_placed l ++ all.placed) (all_placed whole)) is so_far.3)),
      )

-- with all parts in hand, all sweeps are there
pub all_in_hand : (desk : DeskParts) (seats : List Seat) (all : Seat) (whole : List Seat)
    (held given : List PlacedSweep) (amount total : ℕ) → seats ≡ [] → Taken seats all whole → held ≡ all.placed
    → given ≡ placings_from 1 desk.sweeps → total ≡ placed_count desk → amount ≡ count_in held → AreOf held given
    → (all.parts ≡ 1024 → amount ≡ total) → parts_of whole ≡ 1024
    → AreAllPlaced whole desk.sweeps × (shares_in held ≡ placed_shares desk)
all_in_hand desk seats all whole held given amount total none taken is gives counted amounts are audited parts =
    let off = ap parts_of none in let had = taken.0 in
    let joins : IsPermutation all.placed (all_placed whole)
    = subst (λ (l : List Seat). IsPermutation (all_placed l ++ all.placed) (all_placed whole)) none taken.3 in
    all_are_placed desk whole held given amount total gives counted amounts (audited (omega (arith, off, had, parts))) are
    (subst (λ (l : List PlacedSweep). IsPermutation l (all_placed whole)) (sym is) joins)
