-- What all callers of a day leave.
use Rattle.std.proofs.Common.{◌≡◌, ◌+◌, ◌*◌, ◌≤◌, ℕ, suc, List, [], ◌∷◌, length, map, All, refl, ap, subst, ◌<◌, ◌∙◌, arith}
use Rattle.std.proofs.Math.Nat.{add-mul, suc-mul, zero-mul}
use Rattle.std.specs.Prelude.{sum_by, slice_index_or}
use Rattle.std.proofs.lemmas.List.Sums.{sum_by-cons}
use Rattle.std.proofs.lemmas.List.Elements.{All-head, All-tail}
use Rattle.std.specs.declared.thread.PromisedHandle.{PromisedHandle}
use Rattle.std.specs.declared.thread.Promise as Promise
use Rattle.std.specs.PromisedHandle.{KeepsAt}
use Rattle.exec_collector.specs.Seats.{Seat, parts_of as seat_parts, shares_of}
use Rattle.live_load.specs.declared.live_plan.LivePlan.{LivePlan}
use Rattle.live_load.specs.Day.{Caller, caller_of, CallerLeft, left_of, shares_each, Called, AllCalled, AreCalled}

abbrev unplaced_in : List CallerLeft → ℕ
unplaced_in ends = sum_by (λ (left : CallerLeft). left.unplaced) ends

abbrev parts_in : List CallerLeft → ℕ
parts_in ends = sum_by (λ (left : CallerLeft). left.seat.parts) ends

abbrev shares_in : List CallerLeft → ℕ
shares_in ends = sum_by (λ (left : CallerLeft). left.seat.shares) ends

called_parts : (plan : LivePlan) (seats : List Seat) (ends : List CallerLeft)
    → AllCalled (map (λ seat. caller_of plan seat) seats) ends → parts_in ends ≡ seat_parts seats
called_parts plan [] [] all = refl
called_parts plan [] (left ∷ ends) all = absurd all
called_parts plan (seat ∷ seats) [] all = absurd all
called_parts plan (seat ∷ seats) (left ∷ ends) all =
    let first = all.0.parts in
    let rest = called_parts plan seats ends all.1 in
    let sum = sum_by-cons (λ (l : CallerLeft). l.seat.parts) left ends in
    let parts = sum_by-cons (λ (s : Seat). s.parts) seat seats in
    omega (arith, first, rest, sum, parts)

called_few : (plan : LivePlan) (seats : List Seat) (ends : List CallerLeft)
    → AllCalled (map (λ seat. caller_of plan seat) seats) ends → unplaced_in ends ≤ length seats * plan.sweeps
called_few plan [] [] all = let none = zero-mul plan.sweeps in omega (arith, none)
called_few plan [] (left ∷ ends) all = absurd all
called_few plan (seat ∷ seats) [] all = absurd all
called_few plan (seat ∷ seats) (left ∷ ends) all =
    let first = all.0.few in
    let rest = called_few plan seats ends all.1 in
    let more : length (seat ∷ seats) * plan.sweeps ≡ length seats * plan.sweeps + plan.sweeps = suc-mul (length seats) plan.sweeps in
    let sum = sum_by-cons (λ (l : CallerLeft). l.unplaced) left ends in
    omega (arith, first, rest, more, sum)

called_shares : (plan : LivePlan) (seats : List Seat) (ends : List CallerLeft)
    → AllCalled (map (λ seat. caller_of plan seat) seats) ends
    → shares_in ends + unplaced_in ends * shares_each plan
    ≡ shares_of seats + length seats * (plan.sweeps * shares_each plan)
called_shares plan [] [] all =
    let a : unplaced_in [] * shares_each plan ≡ 0 = zero-mul (shares_each plan) in
    let b : length {A = Seat} [] * (plan.sweeps * shares_each plan) ≡ 0 = zero-mul (plan.sweeps * shares_each plan) in
    let none : shares_in [] ≡ 0 = refl in
    let new : shares_of [] ≡ 0 = refl in
    omega (arith, a, b, none, new)
called_shares plan [] (left ∷ ends) all = absurd all
called_shares plan (seat ∷ seats) [] all = absurd all
called_shares plan (seat ∷ seats) (left ∷ ends) all =
    let each = shares_each plan in
    let first = all.0.shares in
    let rest = called_shares plan seats ends all.1 in
    let given : unplaced_in (left ∷ ends) ≡ left.unplaced + unplaced_in ends =
    sum_by-cons (λ (l : CallerLeft). l.unplaced) left ends in
    let both : unplaced_in (left ∷ ends) * each ≡ left.unplaced * each + unplaced_in ends * each =
    ap (λ n. n * each) given ∙ add-mul left.unplaced (unplaced_in ends) each in
    let more : length (seat ∷ seats) * (plan.sweeps * each) ≡ length seats * (plan.sweeps * each) + plan.sweeps * each =
    suc-mul (length seats) (plan.sweeps * each) in
    let sum = sum_by-cons (λ (l : CallerLeft). l.seat.shares) left ends in
    let before = sum_by-cons (λ (s : Seat). s.shares) seat seats in
    omega (arith, first, rest, both, more, sum, before)

-- seats on which nothing was counted
none_counted : (seats : List Seat) → All (λ (s : Seat). s.shares ≡ 0) seats → shares_of seats ≡ 0
none_counted [] new = refl
none_counted (seat ∷ seats) new =
    let first = All-head (λ (s : Seat). s.shares ≡ 0) seat seats new in
    let rest = none_counted seats (All-tail (λ (s : Seat). s.shares ≡ 0) seat seats new) in
    let sum = sum_by-cons (λ (s : Seat). s.shares) seat seats in
    omega (arith, first, rest, sum)

-- the callers of a plan, with all parts among them, and nothing counted before
pub are_called : (plan : LivePlan) (seats : List Seat) (ends : List CallerLeft) → length seats ≡ plan.callers
    → seat_parts seats ≡ 1024
    → All (λ (s : Seat). s.shares ≡ 0) seats
    → AllCalled (map (λ seat. caller_of plan seat) seats) ends
    → AreCalled plan ends
are_called plan seats ends many whole new all =
    let shares = called_shares plan seats ends all in
    let none = none_counted seats new in
    let count : length seats * (plan.sweeps * shares_each plan) ≡ plan.callers * (plan.sweeps * shares_each plan) =
    ap (λ n. n * (plan.sweeps * shares_each plan)) many in
    let few = called_few plan seats ends all in
    let most : length seats * plan.sweeps ≡ plan.callers * plan.sweeps = ap (λ n. n * plan.sweeps) many in
    record {
      parts = called_parts plan seats ends all ∙ whole;
      few = omega (arith, few, most);
      shares = omega (arith, shares, none, count);
    }

-- the sums over what callers leave are those over their seats and counts
pub sums_of : {A : Type 0} (seat : A → Seat) (unplaced : A → ℕ) (ends : List A)
    → (parts_in (map (λ e. left_of (seat e) (unplaced e)) ends) ≡ seat_parts (map seat ends))
    × (unplaced_in (map (λ e. left_of (seat e) (unplaced e)) ends) ≡ sum_by unplaced ends)
    × (shares_in (map (λ e. left_of (seat e) (unplaced e)) ends) ≡ shares_of (map seat ends))
sums_of seat unplaced [] = (refl, refl, refl)
sums_of seat unplaced (end ∷ ends) =
    let rest = sums_of seat unplaced ends in
    let left : CallerLeft = left_of (seat end) (unplaced end) in
    let lefts : List CallerLeft = map (λ e. left_of (seat e) (unplaced e)) ends in
    let parts = sum_by-cons (λ (l : CallerLeft). l.seat.parts) left lefts in
    let counts = sum_by-cons (λ (l : CallerLeft). l.unplaced) left lefts in
    let shares = sum_by-cons (λ (l : CallerLeft). l.seat.shares) left lefts in
    let seats_parts = sum_by-cons (λ (s : Seat). s.parts) (seat end) (map seat ends) in
    let all_counts = sum_by-cons unplaced end ends in
    let seats_shares = sum_by-cons (λ (s : Seat). s.shares) (seat end) (map seat ends) in
    let p = rest.0 in
    let u = rest.1 in
    let s = rest.2 in
    (omega (arith, p, parts, seats_parts), omega (arith, u, counts, all_counts), omega (arith, s, shares, seats_shares))

module _ {T P : Type 0} (g : Promise.Ghosts P T) (caller : P → Caller) (left : T → CallerLeft)
    (keeps : (p : P) (r : T) → g.kept_by p r → Called (caller p) (left r)) where
  -- each result keeps the promise of the handle at its place, so each caller did as it was to
  pub all_called : (handles : List (PromisedHandle T P)) (results : List T) → length results ≡ length handles
      → ((i : ℕ) (d : T) → i < length handles → KeepsAt g handles i (slice_index_or results i d))
      → AllCalled (map (λ h. caller h.promise) handles) (map left results)
  all_called [] [] same each = tt
  all_called [] (r ∷ results) same each = absurd (omega arith)
  all_called (h ∷ handles) [] same each = absurd (omega arith)
  all_called (h ∷ handles) (r ∷ results) same each =
      let first = each 0 r (omega arith) in
      let kept : g.kept_by h.promise r = subst (λ (x : PromisedHandle T P). g.kept_by x.promise r) first.handle_is first.kept in (
        keeps h.promise r kept,
        all_called handles results (omega arith) (λ i d below. (let next = each (suc i) d (omega (arith, below)) in
            record { handle = next.handle; handle_is = next.handle_is; kept = next.kept })),
      )
