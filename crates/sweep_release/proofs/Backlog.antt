-- Each leg released to a venue is placed there or left, and at most 256 are placed.
use Rattle.std.proofs.Common.{◌≡◌, ℕ, suc, ◌+◌, ◌-◌, ◌<◌, ◌≤◌, inl, inr, Bool, true, false, not, List, [], ◌∷◌, ◌++◌, length, Option, Some, None, refl, ap, sym, subst, arith, if◌then◌else◌}
use Rattle.std.specs.Prelude.{◌==◌, nat_lt, nat_le}
use Rattle.std.proofs.lemmas.Bool.{cases_Bool, cases_eq, cases_lt, eqb-true, ltb-false}
use Rattle.std.proofs.lemmas.List.{append_assoc, append-nil, length-drop}
use Rattle.leg.specs.Refusing.{◌or_then◌, refused_if}
use Rattle.leg.specs.declared.leg.Leg.{Leg}
use Rattle.leg.specs.declared.sweep.Routed.{Routed}
use Rattle.sweep_release.specs.declared.desk_entry.DeskEntry.{DeskEntry}
use Rattle.sweep_release.specs.declared.gate.Gate.{Gate}
use Rattle.sweep_release.specs.declared.release_fault.ReleaseFault.{ReleaseFault}
use Rattle.sweep_release.specs.declared.release_fault.ReleaseFault.TheVariants.{Empty, TooManyLegs, UnknownVenue, GateShut, BacklogFull}
use Rattle.sweep_release.specs.Released.{released}
use Rattle.sweep_release.specs.Desk.{DeskVenue, DeskParts, new_desk, venue_at, gate_of, placed_legs, placed, refused_at, is_up, count_to, backlog_refusal, release_refusal, with_gate, one_left}
use Rattle.sweep_release.specs.History.{again, replay}
use Rattle.sweep_release.specs.Laws.{IsCounted}
use Rattle.sweep_release.proofs.Refusals.{not_first}
use Rattle.sweep_release.proofs.Venues.{venue_at-other, with_venue-past, left-with_gate, left-one_left, left-new_desk}
use Rattle.sweep_release.proofs.Released.{length-released-push}
use Rattle.sweep_release.proofs.Calls.{IsStep, stays, releases, turns, leaves, step}

-- where nothing is refused, neither of two refusals holds
pub none_first : (a b : Option ReleaseFault) → (a or_then b) ≡ None → a ≡ None
none_first (Some fault) b e = cc
none_first None b e = refl

pub none_second : (a b : Option ReleaseFault) → (a or_then b) ≡ None → b ≡ None
none_second (Some fault) b e = cc
none_second None b e = e

backlog_none : (desk : DeskParts) (legs : List Routed) → release_refusal desk legs ≡ None → backlog_refusal desk [] legs ≡ None
backlog_none desk legs e =
    none_first (backlog_refusal desk [] legs) _
    (none_second (refused_at GateShut (λ venue. not (is_up (gate_of desk venue))) legs) _
    (none_second (refused_at UnknownVenue (λ venue. nat_le (length desk.venues) venue) legs) _
    (none_second (refused_if (nat_lt 32 (length legs)) TooManyLegs) _
    (none_second (refused_if (length legs == 0) Empty) _ e))))

one_more : (b : Bool) (n m : ℕ) → n ≡ m + 1 → (if b then suc n else n) ≡ (if b then suc m else m) + 1
one_more true n m e = omega arith
one_more false n m e = e

-- the count of one more order, which is for this venue or for another
count_to-this : (venue : ℕ) (before : List Routed) (routed : Routed) → (routed.venue == venue) ≡ true → count_to venue (before ++ routed ∷ []) ≡ count_to venue before + 1
count_to-this venue [] routed this = rw this refl
count_to-this venue (first ∷ before) routed this =
    one_more (first.venue == venue) (count_to venue (before ++ routed ∷ [])) (count_to venue before) (count_to-this venue before routed this)

count_to-other : (venue : ℕ) (before : List Routed) (routed : Routed) → (routed.venue == venue) ≡ false → count_to venue (before ++ routed ∷ []) ≡ count_to venue before
count_to-other venue [] routed other = rw other refl
count_to-other venue (first ∷ before) routed other =
    ap (λ n. if first.venue == venue then suc n else n) (count_to-other venue before routed other)

-- where no leg is refused for a full backlog, what is placed and the sweep's legs are together at most 256
fits_along : (desk : DeskParts) (venue : ℕ) (before legs : List Routed) → backlog_refusal desk before legs ≡ None → placed desk venue + count_to venue before ≤ 256 → placed desk venue + count_to venue (before ++ legs) ≤ 256
fits_along desk venue before [] e h = rw append-nil h
fits_along desk venue before (routed ∷ legs) e h =
    let parts = not_first (nat_lt 256 (placed desk routed.venue + count_to routed.venue before + 1)) (BacklogFull routed.venue) (backlog_refusal desk (before ++ routed ∷ []) legs) e in
    let fits = ltb-false 256 (placed desk routed.venue + count_to routed.venue before + 1) parts.0 in
    let joined : (before ++ routed ∷ []) ++ legs ≡ before ++ (routed ∷ legs) = append_assoc before (routed ∷ []) legs in
    let next : placed desk venue + count_to venue (before ++ routed ∷ []) ≤ 256 =
    elim (cases_Bool (routed.venue == venue)) [
      | inl this ↦
          (let same = eqb-true routed.venue venue this in
          let here : placed desk venue + count_to venue before + 1 ≤ 256 = subst (λ v. placed desk v + count_to v before + 1 ≤ 256) same fits in
          omega (arith, here, count_to-this venue before routed this))
      | inr other ↦ omega (arith, h, count_to-other venue before routed other)
    ] in
    subst (λ l. placed desk venue + count_to venue l ≤ 256) joined (fits_along desk venue (before ++ routed ∷ []) legs parts.1 next)

pub fits : (desk : DeskParts) (venue : ℕ) (legs : List Routed) → release_refusal desk legs ≡ None → placed desk venue ≤ 256 → placed desk venue + count_to venue legs ≤ 256
fits desk venue legs e h = fits_along desk venue [] legs (backlog_none desk legs e) (omega (arith, h))

-- the counts in terms of how many left
placed_is : (desk : DeskParts) (venue : ℕ) → placed desk venue ≡ length (released venue desk.sweeps) - (venue_at desk venue).left
placed_is desk venue = length-drop (venue_at desk venue).left (released venue desk.sweeps)

counted_from : (desk : DeskParts) (venue : ℕ) → (venue_at desk venue).left ≤ length (released venue desk.sweeps) → length (released venue desk.sweeps) ≤ (venue_at desk venue).left + 256 → IsCounted desk venue
counted_from desk venue low high =
    record { all = omega (arith, placed_is desk venue, low); few = omega (arith, placed_is desk venue, high) }

pub counted-new_desk : (venues venue : ℕ) → IsCounted (new_desk venues) venue
counted-new_desk venues venue =
    counted_from (new_desk venues) venue (omega (arith, left-new_desk venues venue)) (omega arith)

counted-releases : (desk : DeskParts) (legs : List Routed) (venue : ℕ) → release_refusal desk legs ≡ None → IsCounted desk venue → IsCounted (record desk { sweeps = desk.sweeps ++ legs ∷ [] }) venue
counted-releases desk legs venue e h =
    let all = h.all in
    let few = h.few in
    let room = fits desk venue legs e few in
    let more = length-released-push venue desk.sweeps legs in
    counted_from (record desk { sweeps = desk.sweeps ++ legs ∷ [] }) venue (omega (arith, all, more)) (omega (arith, all, room, more))

counted-turns : (desk : DeskParts) (turned : ℕ) (gate : Gate) (venue : ℕ) → IsCounted desk venue → IsCounted (with_gate turned gate desk) venue
counted-turns desk turned gate venue h =
    let all = h.all in
    let few = h.few in
    let same = left-with_gate turned venue gate desk in
    counted_from (with_gate turned gate desk) venue (omega (arith, all, same)) (omega (arith, all, few, same))

some_placed : (legs : List Leg) (leg : Leg) (rest : List Leg) → legs ≡ leg ∷ rest → 0 < length legs
some_placed legs leg rest e = rw e (omega arith)

counted-leaves : (desk : DeskParts) (of : ℕ) (leg : Leg) (rest : List Leg) (venue : ℕ) → placed_legs desk of ≡ leg ∷ rest → IsCounted desk venue → IsCounted (one_left of desk) venue
counted-leaves desk of leg rest venue e h =
    let all = h.all in
    let few = h.few in
    let now : DeskVenue = record { gate = gate_of desk of; left = (venue_at desk of).left + 1 } in
    elim (cases_eq venue of) [
      | inl same ↦
          elim (cases_lt of (length desk.venues)) [
            | inl there ↦
                (let one : (venue_at (one_left of desk) venue).left ≡ (venue_at desk venue).left + 1 = subst (λ v. (venue_at (one_left of desk) v).left ≡ (venue_at desk v).left + 1) (sym same) (left-one_left of desk there) in
                let some : 0 < placed desk venue = subst (λ v. 0 < placed desk v) (sym same) (some_placed (placed_legs desk of) leg rest e) in
                counted_from (one_left of desk) venue (omega (arith, all, one, some)) (omega (arith, all, few, one)))
            | inr past ↦ subst (λ d. IsCounted d venue) (sym (with_venue-past of now desk past)) h
          ]
      | inr differs ↦
          (let kept = ap (λ v. v.left) (venue_at-other of venue now desk differs) in
          counted_from (one_left of desk) venue (omega (arith, all, kept)) (omega (arith, all, few, kept)))
    ]

counted-step : (desk after : DeskParts) (venue : ℕ) → IsStep desk after → IsCounted desk venue → IsCounted after venue
counted-step desk after venue (stays e) h = subst (λ d. IsCounted d venue) (sym e) h
counted-step desk after venue (releases legs fine e) h = subst (λ d. IsCounted d venue) (sym e) (counted-releases desk legs venue fine h)
counted-step desk after venue (turns turned gate final e) h = subst (λ d. IsCounted d venue) (sym e) (counted-turns desk turned gate venue h)
counted-step desk after venue (leaves of leg rest first e) h = subst (λ d. IsCounted d venue) (sym e) (counted-leaves desk of leg rest venue first h)

counted-from_desk : (desk : DeskParts) (entries : List DeskEntry) (venue : ℕ) → IsCounted desk venue → IsCounted (replay desk entries) venue
counted-from_desk desk [] venue h = h
counted-from_desk desk (entry ∷ entries) venue h =
    counted-from_desk (again desk entry) entries venue (counted-step desk (again desk entry) venue (step desk entry) h)

pub counted-replay : (venues : ℕ) (entries : List DeskEntry) (venue : ℕ) → IsCounted (replay (new_desk venues) entries) venue
counted-replay venues entries venue = counted-from_desk (new_desk venues) entries venue (counted-new_desk venues venue)
