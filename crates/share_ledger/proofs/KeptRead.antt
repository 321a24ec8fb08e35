-- The sums of what is kept are those of the history.
use Rattle.std.proofs.Common.{◌≡◌, ℕ, suc, ◌+◌, ◌<◌, ◌≤◌, inl, inr, false, List, [], ◌∷◌, length, Some, refl, ap, sym, ◌∙◌, arith}
use Rattle.std.specs.Prelude.{◌==◌, slice_get, option_map, option_and_then, sum_by}
use Rattle.std.specs.Global.{Vec}
use Rattle.std.proofs.lemmas.Bool.{cases_Bool, ne_eqb}
use Rattle.std.proofs.lemmas.List.Sums.{sum_by-cons}
use Rattle.std.proofs.lemmas.Option.{slice_get-get_or, slice_get_within}
use Rattle.leg.specs.LegId.{LegIdParts}
use Rattle.leg.specs.declared.sweep.Routed.{Routed}
use Rattle.share_ledger.specs.declared.ledger.Ledger.{Ledger}
use Rattle.share_ledger.specs.Entries.{opened}
use Rattle.share_ledger.specs.Book.{BookParts, BookedLeg, booked_from, all_booked_from, totals_of, totals, resolved_shares, venue_resolved}
use Rattle.share_ledger.specs.Kept.{ledger_seen, booked_leg, sum_over, resolved_at, IsKept}
use Rattle.share_ledger.proofs.VenueSums.{at_venue, at_venue-append, at_venue-this}
use Rattle.share_ledger.proofs.KeptLegs.{same_list, booked_from-at}

-- the kept legs of a sweep are those of the history
pub sweep_items : (ledger : Ledger) → IsKept ledger → (n : ℕ) (legs : Vec BookedLeg) (sweep : List Routed)
    → slice_get ledger.sweeps.items n ≡ Some legs → slice_get (opened ledger.history.items) n ≡ Some sweep
    → legs.items ≡ booked_from (ledger_seen ledger) (suc n) 1 sweep
sweep_items ledger h n legs sweep legs_is sweep_is =
    same_list legs.items (booked_from (ledger_seen ledger) (suc n) 1 sweep) (λ m.
    let id : LegIdParts = record { sweep = suc n; place = suc m } in
    let all = h.legs in
    let next : suc m ≡ 1 + m = omega arith in
    sym (ap (option_and_then (λ l. slice_get l.items m)) legs_is)
    ∙ (all id
    ∙ (ap (λ s. option_map (booked_leg (ledger_seen ledger) id) (option_and_then (λ l. slice_get l m) s)) sweep_is
    ∙ (ap (λ p. option_map (booked_leg (ledger_seen ledger) (record { sweep = suc n; place = p })) (slice_get sweep m))
    next
    ∙ sym (booked_from-at (ledger_seen ledger) (suc n) 1 sweep m)))))

pub totals_kept : (ledger : Ledger) → IsKept ledger → (n : ℕ) (legs : Vec BookedLeg)
    → slice_get ledger.sweeps.items n ≡ Some legs → totals (ledger_seen ledger) (suc n) ≡ Some (totals_of legs.items)
totals_kept ledger h n legs legs_is =
    let count = h.sweeps in
    let there : n < length (opened ledger.history.items) = omega
    (arith, count, slice_get_within ledger.sweeps.items n legs legs_is) in
    let sweep_is = slice_get-get_or (opened ledger.history.items) n [] there in
    ap (option_map (λ l. totals_of (booked_from (ledger_seen ledger) (suc n) 1 l))) sweep_is
    ∙ ap (λ l. Some (totals_of l)) (sym (sweep_items ledger h n legs _ legs_is sweep_is))

at_venue-sum : (venue : ℕ) (legs : List BookedLeg) → at_venue venue legs ≡ sum_by (resolved_at venue) legs
at_venue-sum venue [] = refl
at_venue-sum venue (leg ∷ legs) =
    let rest = at_venue-sum venue legs in
    let more = sum_by-cons (resolved_at venue) leg legs in
    elim (cases_Bool (leg.venue == venue)) [
      | inl this ↦
          (let one : resolved_at venue leg ≡ resolved_shares leg = rw this refl in
          let sum : at_venue venue
          (leg ∷ legs) ≡ resolved_shares leg + at_venue venue legs = at_venue-this venue leg legs this in
          omega (arith, rest, more, one, sum))
      | inr other ↦
          (let one : resolved_at venue leg ≡ 0 = rw other refl in
          let sum : at_venue venue (leg ∷ legs) ≡ at_venue venue legs = rw other refl in
          omega (arith, rest, more, one, sum))
    ]

sums_over : (book : BookParts) (venue number : ℕ) (sweeps : List (Vec BookedLeg)) (all : List (List Routed))
    → length sweeps ≡ length all
    → ((n : ℕ) (legs : Vec BookedLeg) (sweep : List Routed) → slice_get sweeps n ≡ Some legs
    → slice_get all n ≡ Some sweep → legs.items ≡ booked_from book (number + n) 1 sweep)
    → sum_over (resolved_at venue) sweeps ≡ at_venue venue (all_booked_from book number all)
sums_over book venue number [] [] count same = refl
sums_over book venue number [] (sweep ∷ all) count same = absurd (omega (arith, count))
sums_over book venue number (legs ∷ sweeps) [] count same = absurd (omega (arith, count))
sums_over book venue number (legs ∷ sweeps) (sweep ∷ all) count same =
    let here : number + 0 ≡ number = omega arith in
    let first : legs.items ≡ booked_from book number 1 sweep = same 0 legs sweep refl refl
    ∙ ap (λ n. booked_from book n 1 sweep) here in
    let rest = sums_over book venue (suc number) sweeps all (omega (arith, count)) (λ n l s e f.
    (let next : number + suc n ≡ suc number + n = omega arith in same (suc n) l s e f
    ∙ ap (λ k. booked_from book k 1 s) next)) in
    let more = sum_by-cons (λ l. sum_by (resolved_at venue) l.items) legs sweeps in
    let joined = at_venue-append venue (booked_from book number 1 sweep) (all_booked_from book (suc number) all) in
    let one = ap (sum_by (resolved_at venue)) first in
    let at = at_venue-sum venue (booked_from book number 1 sweep) in
    omega (arith, rest, more, joined, one, at)

pub resolved_kept : (ledger : Ledger) → IsKept ledger → (venue : ℕ)
    → sum_over (resolved_at venue) ledger.sweeps.items ≡ venue_resolved (ledger_seen ledger) venue
resolved_kept ledger h venue =
    sums_over (ledger_seen ledger) venue 1 ledger.sweeps.items (opened ledger.history.items) h.sweeps
    (λ n legs sweep e f. (let next : suc n ≡ 1 + n = omega arith in sweep_items ledger h n legs sweep e f
    ∙ ap (λ k. booked_from (ledger_seen ledger) k 1 sweep) next))

sum_none : {A : Type 0} (f : A → ℕ) (xs : List A) → ((m : ℕ) (x : A) → slice_get xs m ≡ Some x → f x ≡ 0)
    → sum_by f xs ≡ 0
sum_none f [] none = refl
sum_none f (x ∷ xs) none =
    let first = none 0 x refl in
    let rest = sum_none f xs (λ m y e. none (suc m) y e) in
    omega (arith, sum_by-cons f x xs, first, rest)

-- no leg is of a venue that isn't there
pub unknown_kept : (ledger : Ledger) → IsKept ledger → (venue : ℕ) → length ledger.resolved.items ≤ venue
    → venue_resolved (ledger_seen ledger) venue ≡ 0
unknown_kept ledger h venue past =
    let known = h.known in
    sym (resolved_kept ledger h venue)
    ∙ sum_none (λ l. sum_by (resolved_at venue) l.items) ledger.sweeps.items (λ n legs e.
    sum_none (resolved_at venue) legs.items (λ m leg f.
    (let there = known (record { sweep = suc n; place = suc m }) leg
    (ap (option_and_then (λ l. slice_get l.items m)) e ∙ f) in
    let other : (leg.venue == venue) ≡ false = ne_eqb leg.venue venue
    (λ same. absurd (omega (arith, same, there, past))) in
    rw other refl)))
