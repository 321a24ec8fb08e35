-- The ends of the rings are compared with the desk, from the first venue on.
use Rattle.std.proofs.Common.{◌≡◌, ◌⊎◌, ◌↔◌, ℕ, zero, suc, ◌+◌, ◌<◌, ◌≤◌, inl, inr, Bool, true, Result, Ok, Err, if◌then◌else◌, get_or, List, [], ◌∷◌, ◌++◌, length, take, drop, slice_get, Some, refl, ap, sym, ◌∙◌, subst, arith, add-one, append_assoc, ⊎_elim}
use Rattle.std.specs.Prelude.{nat_le}
use Rattle.std.proofs.lemmas.Bool.Decides.{nat_tests}
use Rattle.std.proofs.lemmas.List.{length-append, take-append-drop, take_more_same}
use Rattle.std.proofs.lemmas.Option.{slice_get_within, slice_get_read, get_or_from_slice_get}
use Rattle.std.proofs.Math.Seq.{take-length}
use mathlib.Core.List.{IsPrefix}
use Rattle.atomic_table.specs.Seated.{TableId}
use Rattle.leg.specs.Venue.{venue_of}
use Rattle.leg.specs.declared.fault.LegFault.{LegFault}
use Rattle.leg.specs.declared.fault.LegFault.TheVariants.{BadVenue}
use Rattle.leg.specs.declared.leg.Leg.{Leg}
use Rattle.leg.specs.declared.placed_leg.PlacedLeg.{PlacedLeg}
use Rattle.venue_queue.specs.Port.{Port}
use Rattle.sweep_release.specs.Released.{released}
use Rattle.sweep_release.specs.Desk.{DeskParts}
use Rattle.release_lock.specs.Queues.{placed_from, released_to, Took, TookFirst, AllTookFirst, IsFirstWrong, IsFed, AreFed}
use Rattle.release_lock.proofs.LeftLegs.{length-placed_from}

-- a prefix of the first so many is a prefix
pub prefix_take : (xs ys : List PlacedLeg) (n : ℕ) → IsPrefix xs (take n ys) → IsPrefix xs ys
prefix_take xs ys n p =
    (p.0 ++ drop n ys, sym (append_assoc xs p.0 (drop n ys)) ∙ ap (λ l. l ++ drop n ys) p.1 ∙ take-append-drop n ys)

pub prefix_from_take : (xs ys : List PlacedLeg) → take (length xs) xs ≡ take (length xs) ys → IsPrefix xs ys
prefix_from_take xs ys e =
    (drop (length xs) ys, ap (λ l. l ++ drop (length xs) ys) (sym (take-length xs) ∙ e) ∙ take-append-drop (length xs) ys)

-- what stands at a place of a prefix stands there
at_append : (xs ys : List PlacedLeg) (n : ℕ) (x : PlacedLeg) → slice_get xs n ≡ Some x → slice_get (xs ++ ys) n ≡ Some x
at_append [] ys n x e = absurd cc
at_append (z ∷ xs) ys zero x e = e
at_append (z ∷ xs) ys (suc n) x e = at_append xs ys n x e

pub at_prefix : (xs ys : List PlacedLeg) (n : ℕ) (x : PlacedLeg) → IsPrefix xs ys → slice_get xs n ≡ Some x
    → slice_get ys n ≡ Some x
at_prefix xs ys n x p e = subst (λ (l : List PlacedLeg). slice_get l n ≡ Some x) p.1 (at_append xs p.0 n x e)

pub longer : (xs ys : List PlacedLeg) → IsPrefix xs ys → length xs ≤ length ys
longer xs ys p = let e = ap length p.1 in omega (arith, e, length-append xs p.0)

-- the released leg at a place has the ordinal behind it
pub at_ordinal : (ordinal n : ℕ) (legs : List Leg) (leg : Leg) → slice_get legs n ≡ Some leg
    → slice_get (placed_from ordinal legs) n ≡ Some (record { ordinal = ordinal + n; leg = leg })
at_ordinal ordinal n [] leg e = absurd cc
at_ordinal ordinal zero (x ∷ legs) leg e =
    let same : x ≡ leg = cc in
    let number : ordinal ≡ ordinal + 0 = omega arith in
    λ i. Some (record { ordinal = number i; leg = same i })
at_ordinal ordinal (suc n) (x ∷ legs) leg e =
    let number : suc ordinal + n ≡ ordinal + suc n = omega arith in
    at_ordinal (suc ordinal) n legs leg e ∙ ap (λ k. Some (record { ordinal = k; leg = leg })) number

-- one leg more is the same, or isn't

pub begins_on : (taken : List PlacedLeg) (released : List Leg) (n : ℕ) (placed : PlacedLeg) (leg : Leg)
    → n < length taken → n < length released → placed ≡ get_or taken n placed → leg ≡ get_or released n leg
    → placed ≡ record { ordinal = n + 1; leg = leg } → take n taken ≡ take n (placed_from 1 released)
    → take (n + 1) taken ≡ take (n + 1) (placed_from 1 released)
begins_on taken released n placed leg in_taken in_released placed_is leg_is same so_far =
    let all = placed_from 1 released in
    let long = length-placed_from 1 released in
    let here = at_ordinal 1 n released leg (slice_get_read released (length released) n leg refl in_released leg_is) in
    let number : n + 1 ≡ 1 + n = omega arith in
    let ordinal : placed ≡ record { ordinal = 1 + n; leg = leg } = same ∙ (λ i. record { ordinal = number i; leg = leg }) in
    take_more_same taken all n placed in_taken (omega (arith, long, in_released)) so_far
    (sym placed_is ∙ (ordinal ∙ sym (get_or_from_slice_get all n _ placed here)))

pub begins_wrong : (taken : List PlacedLeg) (released : List Leg) (n : ℕ) (placed : PlacedLeg) (leg : Leg)
    → n < length taken → n < length released → placed ≡ get_or taken n placed → leg ≡ get_or released n leg
    → (placed ≡ record { ordinal = n + 1; leg = leg } → ⊥) → IsPrefix taken (placed_from 1 released) → ⊥
begins_wrong taken released n placed leg in_taken in_released placed_is leg_is other p =
    let mine : PlacedLeg = record { ordinal = 1 + n; leg = leg } in
    let here : slice_get (placed_from 1 released) n ≡ Some mine
    = at_ordinal 1 n released leg (slice_get_read released (length released) n leg refl in_released leg_is) in
    let there : slice_get (placed_from 1 released) n ≡ Some placed
    = at_prefix taken (placed_from 1 released) n placed p
    (slice_get_read taken (length taken) n placed refl in_taken placed_is) in
    let same : placed ≡ mine = cc (here, there) in
    let number : 1 + n ≡ n + 1 = omega arith in
    other (same ∙ (λ i. record { ordinal = number i; leg = leg }))

-- the venue of a place
pub venue_ok : (n : ℕ) → n < 16 → venue_of n ≡ Ok n
venue_ok n small =
    let test : nat_le n 15 ≡ true = grind (arith, nat_tests, small) in
    ap (λ (b : Bool). (let r : Result ℕ LegFault = if b then Ok n else Err BadVenue in r)) test

-- what has no first has nothing
pub no_more : (xs : List Port) → xs ≡ drop 1 xs → xs ≡ []
no_more [] e = refl
no_more (x ∷ xs) e = let same = ap length e in absurd (omega (arith, same))

-- what stands first behind n stands at n
drop_head : {A : Type 0} (xs : List A) (n : ℕ) (y : A) (ys : List A) → drop n xs ≡ y ∷ ys
    → (slice_get xs n ≡ Some y) × (drop (n + 1) xs ≡ ys)
drop_head [] zero y ys e = absurd cc
drop_head [] (suc n) y ys e = absurd cc
drop_head (x ∷ xs) zero y ys e = (cc, cc)
drop_head (x ∷ xs) (suc n) y ys e = let r = drop_head xs n y ys e in (r.0, rw add-one (rw add-one at r.1))

within : {A : Type 0} (xs : List A) (n : ℕ) (y : A) (ys : List A) → drop n xs ≡ y ∷ ys → n < length xs
within [] zero y ys e = absurd cc
within [] (suc n) y ys e = absurd cc
within (x ∷ xs) zero y ys e = omega arith
within (x ∷ xs) (suc n) y ys e = let r = within xs n y ys e in omega (arith, r)

past : {A : Type 0} (xs : List A) (n : ℕ) → drop n xs ≡ [] → length xs ≤ n
past [] n e = omega arith
past (x ∷ xs) zero e = absurd cc
past (x ∷ xs) (suc n) e = let r = past xs n e in omega (arith, r)

at_or_below : (v n : ℕ) → v < n + 1 → (v ≡ n) ⊎ (v < n)
at_or_below zero zero lt = inl refl
at_or_below zero (suc n) lt = inr (omega arith)
at_or_below (suc v) zero lt = absurd (omega (arith, lt))
at_or_below (suc v) (suc n) lt =
    ⊎_elim (λ t. inl (ap suc t)) (λ t. inr (omega (arith, t))) (at_or_below v n (omega (arith, lt)))

at_nil : (k : ℕ) (feed : Port) → slice_get [] k ≡ Some feed → ⊥
at_nil k feed e = cc

is_nil : (xs ys : List PlacedLeg) → xs ++ ys ≡ [] → xs ≡ []
is_nil [] ys e = refl
is_nil (x ∷ xs) ys e = absurd cc

-- how far it is: the workers below this place took the first legs, and the feeds that are left are of the venues from
-- this place on
pub record Checking (queues : List TableId) (desk : DeskParts) (all : List Took) (place : ℕ) (ends : List Took)
    (feeds : List Port) : Type 0 where
  pub rest : drop place all ≡ ends
  pub many : length queues ≤ length feeds + place
  pub fed : (k : ℕ) (feed : Port) → slice_get feeds k ≡ Some feed → IsFed queues desk (place + k) feed
  pub passed : AllTookFirst desk all place

pub checking_begins : (queues : List TableId) (desk : DeskParts) (all : List Took) (feeds : List Port)
    → length feeds ≡ length queues → AreFed queues desk feeds → Checking queues desk all 0 all feeds
checking_begins queues desk all feeds many fed = record {
  rest = refl;
  many = omega (arith, many);
  fed = λ k feed at.
      let same : k ≡ 0 + k = omega arith in subst (λ n. IsFed queues desk n feed) same (fed k feed at);
  passed = λ venue end below at. absurd (omega (arith, below));
}

pub all_passed : (queues : List TableId) (desk : DeskParts) (all : List Took) (place : ℕ) (feeds : List Port)
    → Checking queues desk all place [] feeds → AllTookFirst desk all (length all)
all_passed queues desk all place feeds c venue end below at =
    let done = past all place c.rest in
    c.passed venue end (omega (arith, done, below)) at

module _ (queues : List TableId) (desk : DeskParts) (all : List Took) (place : ℕ) (end : Took) (ends : List Took)
    (feeds : List Port) (c : Checking queues desk all place (end ∷ ends) feeds) where
  pub end_here : slice_get all place ≡ Some end
  end_here = (drop_head all place end ends c.rest).0

  pub place_within : place < length all
  place_within = within all place end ends c.rest

  passed_on : TookFirst desk place end → AllTookFirst desk all (place + 1)
  passed_on took venue other below at =
      ⊎_elim
      (λ (t : venue ≡ place).
      let is : end ≡ other = cc (end_here, at, ap (slice_get all) t) in
      subst (λ (w : ℕ × Took). TookFirst desk w.0 w.1) (λ i. (sym t i, is i)) took)
      (λ (t : venue < place). c.passed venue other t at)
      (at_or_below venue place below)

  pub is_wrong : (TookFirst desk place end → ⊥) → IsFirstWrong desk all place
  is_wrong bad = record { end = end; there = end_here; wrong = bad; first = c.passed }

  -- the places past the run's venues
  pub goes_past : feeds ≡ [] → TookFirst desk place end → Checking queues desk all (place + 1) ends feeds
  goes_past none took = record {
    rest = (drop_head all place end ends c.rest).1;
    many = (let many = c.many in omega (arith, many));
    fed = λ k feed at. absurd (at_nil k feed (subst (λ (l : List Port). slice_get l k ≡ Some feed) none at));
    passed = passed_on took;
  }

  pub past_all : feeds ≡ [] → length queues ≤ place
  past_all none = let many = c.many in let n = ap length none in omega (arith, many, n)

module _ (queues : List TableId) (desk : DeskParts) (all : List Took) (place : ℕ) (end : Took) (ends : List Took)
    (feed : Port) (feeds : List Port) (c : Checking queues desk all place (end ∷ ends) (feed ∷ feeds)) where
  pub feed_here : IsFed queues desk place feed
  feed_here =
      let same : place + 0 ≡ place = omega arith in
      subst (λ n. IsFed queues desk n feed) same (c.fed 0 feed refl)

  pub venue_within : place < length queues
  venue_within = slice_get_within queues place feed.table feed_here.queue

  pub goes_on : TookFirst desk place end → Checking queues desk all (place + 1) ends feeds
  goes_on took = record {
    rest = (drop_head all place end ends c.rest).1;
    many = (let many = c.many in omega (arith, many));
    fed = λ k other at.
        let same : place + suc k ≡ (place + 1) + k = omega arith in
        subst (λ n. IsFed queues desk n other) same (c.fed (suc k) other at);
    passed = passed_on queues desk all place end ends (feed ∷ feeds) c took;
  }

-- of a venue that the run hasn't got only nothing is a first part
pub none_first : (desk : DeskParts) (venue : ℕ) (end : Took) → released venue desk.sweeps ≡ []
    → (end.taken ≡ []) ↔ TookFirst desk venue end
none_first desk venue end none = (
  (λ e. subst (λ (l : List PlacedLeg). IsPrefix l (released_to desk venue)) (sym e) (released_to desk venue, refl)),
  (λ p. is_nil end.taken p.0 (p.1 ∙ ap (placed_from 1) none)),
)
