-- The legs of a sweep join the queues of their venues.
use Rattle.std.proofs.Common.{◌≡◌, ◌≢◌, ℕ, suc, ◌+◌, ◌<◌, ◌≤◌, inl, inr, Bool, true, false, List, [], ◌∷◌, ◌++◌, length, map, take, drop, get_or, set, refl, ap, sym, ◌∙◌, subst, arith, if◌then◌else◌}
use Rattle.std.specs.Prelude.{◌==◌, sum_by, vec_len, vec_capacity}
use Rattle.std.proofs.lemmas.Bool.{cases_eq, eq-eqb}
use Rattle.std.proofs.lemmas.Bool.Decides.{nat_tests}
use Rattle.std.proofs.lemmas.List.{append_assoc, append-nil, length-append, length-set, length-take-le, take_more, take-append-drop, take_all, map-set, set-get_or, get_or_default, get_or-set_same, get_or-set_other}
use Rattle.std.proofs.lemmas.List.Sums.{sum_by-set}
use Rattle.leg.specs.declared.leg.Leg.{Leg}
use Rattle.leg.specs.declared.sweep.Routed.{Routed}
use Rattle.sweep_release.specs.declared.venue.Venue.{Venue}
use Rattle.sweep_release.specs.Gates.{gate_due}
use Rattle.sweep_release.specs.Released.{legs_to}
use Rattle.sweep_release.specs.Desk.{count_to}
use Rattle.sweep_release.specs.Kept.{venue_seen, entries_due, HaveRoom, IsJoined, IsEnqueued}
use Rattle.sweep_release.proofs.Released.{length-legs_to}

one_before : {A : Type 0} (b : Bool) (x : A) (xs ys zs : List A) → xs ≡ ys ++ zs → (if b then x ∷ xs else xs) ≡ (if b then x ∷ ys else ys) ++ zs
one_before true x xs ys zs e = ap (λ l. x ∷ l) e
one_before false x xs ys zs e = e

pub legs_to-append : (venue number place : ℕ) (xs ys : List Routed) → legs_to venue number place (xs ++ ys) ≡ legs_to venue number place xs ++ legs_to venue number (place + length xs) ys
legs_to-append venue number place [] ys = let same : place ≡ place + 0 = omega arith in ap (λ n. legs_to venue number n ys) same
legs_to-append venue number place (routed ∷ xs) ys =
    let same : suc place + length xs ≡ place + suc (length xs) = omega arith in
    one_before (routed.venue == venue) (record { id = record { sweep = number; place = place }; terms = routed.terms })
    (legs_to venue number (suc place) (xs ++ ys)) (legs_to venue number (suc place) xs) (legs_to venue number (place + suc (length xs)) ys)
    (legs_to-append venue number (suc place) xs ys ∙ ap (λ n. legs_to venue number (suc place) xs ++ legs_to venue number n ys) same)

-- one leg more of the sweep
pub legs_to-more : (venue number : ℕ) (legs : List Routed) (at : ℕ) (routed : Routed) → at < length legs → routed ≡ get_or legs at routed → legs_to venue number 1 (take (at + 1) legs) ≡ legs_to venue number 1 (take at legs) ++ legs_to venue number (at + 1) (routed ∷ [])
legs_to-more venue number legs at routed there is =
    let front : length (take at legs) ≡ at = length-take-le at legs (omega (arith, there)) in
    let place : 1 + length (take at legs) ≡ at + 1 = omega (arith, front) in
    ap (legs_to venue number 1) (take_more legs at routed there ∙ ap (λ r. take at legs ++ r ∷ []) (sym is))
    ∙ (legs_to-append venue number 1 (take at legs) (routed ∷ [])
    ∙ ap (λ n. legs_to venue number 1 (take at legs) ++ legs_to venue number n (routed ∷ [])) place)

legs_to-this : (venue number place : ℕ) (routed : Routed) → routed.venue ≡ venue → legs_to venue number place (routed ∷ []) ≡ record { id = record { sweep = number; place = place }; terms = routed.terms } ∷ []
legs_to-this venue number place routed same = rw (eq-eqb routed.venue venue same) refl

legs_to-other : (venue number place : ℕ) (routed : Routed) → venue ≢ routed.venue → legs_to venue number place (routed ∷ []) ≡ []
legs_to-other venue number place routed differs =
    let test : (routed.venue == venue) ≡ false = grind (arith, nat_tests) in
    rw test refl

-- a venue whose next leg is to join has room for it
pub room_for : (number : ℕ) (legs : List Routed) (before after : List Venue) (at : ℕ) (routed : Routed) (venue : Venue) → HaveRoom legs before → IsEnqueued number (take at legs) before after → at < length legs → routed ≡ get_or legs at routed → routed.venue < length before → venue ≡ get_or after routed.venue venue → vec_len venue.released < vec_capacity venue.released
room_for number legs before after at routed venue room joined there is known was =
    let k = routed.venue in
    let fits = room.fits k venue known in
    let here = joined.joined k venue known in
    let queue = here.joined in
    let cap = here.spare in
    let whole : take (at + 1) legs ++ drop (at + 1) legs ≡ legs = take-append-drop (at + 1) legs in
    let counted : length (legs_to k number 1 legs) ≡ count_to k legs = length-legs_to k number 1 legs in
    let split = ap length (ap (legs_to k number 1) (sym whole) ∙ legs_to-append k number 1 (take (at + 1) legs) (drop (at + 1) legs)) in
    let parts = length-append (legs_to k number 1 (take (at + 1) legs)) (legs_to k number (1 + length (take (at + 1) legs)) (drop (at + 1) legs)) in
    let more = ap length (legs_to-more k number legs at routed there is ∙ ap (λ l. legs_to k number 1 (take at legs) ++ l) (legs_to-this k number (at + 1) routed refl)) in
    let one = length-append (legs_to k number 1 (take at legs)) ((let leg : Leg = record { id = record { sweep = number; place = at + 1 }; terms = routed.terms } in leg) ∷ []) in
    let long = ap length queue ∙ length-append (get_or before k venue).released.items (legs_to k number 1 (take at legs)) in
    let result : vec_len (get_or after k venue).released < vec_capacity (get_or after k venue).released = omega (arith, fits, cap, counted, split, parts, more, one, long, (get_or before k venue).released.ok.0, (get_or after k venue).released.ok.0) in
    subst (λ v. vec_len v.released < vec_capacity v.released) (sym was) result

pub enqueued_none : (number : ℕ) (legs : List Routed) (venues : List Venue) → IsEnqueued number (take 0 legs) venues venues
enqueued_none number legs venues =
    record {
      many = refl;
      joined = λ k other there. record { joined = sym (append-nil (get_or venues k other).released.items); spare = refl; left = refl };
      seen = refl;
      due = omega arith;
    }

-- one more leg joined
pub enqueued_more : (number : ℕ) (legs : List Routed) (before after : List Venue) (at : ℕ) (routed : Routed) (was now : Venue) → HaveRoom legs before → IsEnqueued number (take at legs) before after → at < length legs → routed ≡ get_or legs at routed → routed.venue < length before → was ≡ get_or after routed.venue was → now.gate ≡ was.gate → now.left ≡ was.left → vec_capacity now.released ≡ vec_capacity was.released → now.released.items ≡ was.released.items ++ record { id = record { sweep = number; place = at + 1 }; terms = routed.terms } ∷ [] → IsEnqueued number (take (at + 1) legs) before (set after routed.venue now)
enqueued_more number legs before after at routed was now room joined there is known was_is gate left cap items =
    let v = routed.venue in
    let leg : Leg = record { id = record { sweep = number; place = at + 1 }; terms = routed.terms } in
    let many = joined.many in
    let sum = joined.due in
    let within : v < length after = subst (λ n. v < n) (sym many) known in
    let same : venue_seen now ≡ venue_seen was = λ k. record { gate = gate k; left = left k } in
    let front : length (take at legs) ≡ at = length-take-le at legs (omega (arith, there)) in
    let next : length (take (at + 1) legs) ≡ at + 1 = length-take-le (at + 1) legs (omega (arith, there)) in
    let queue_long = ap length items ∙ length-append was.released.items (leg ∷ []) in
    let gates = ap gate_due gate in
    let first = joined.joined v was known in
    let kept_left = first.left in
    let longer = ap length first.joined ∙ length-append (get_or before v was).released.items (legs_to v number 1 (take at legs)) in
    let behind = room.left v was known in
    let placed_was : was.left ≤ length was.released.items =
    subst (λ x. x.left ≤ length x.released.items) (sym was_is) (omega (arith, kept_left, longer, behind)) in
    let sums : sum_by entries_due (set after v now) + entries_due was ≡ sum_by entries_due after + entries_due now = subst (λ x. sum_by entries_due (set after v now) + entries_due x ≡ sum_by entries_due after + entries_due now) (sym was_is) (sum_by-set entries_due after v now was within) in
    record {
      many = length-set after v now ∙ many;
      joined = λ k other inside.
          let here = joined.joined k other inside in
          let queue = here.joined in
          let capacity = here.spare in
          let lefts = here.left in
          let legs_are = legs_to-more k number legs at routed there is in
          elim (cases_eq k v) [
            | inl this ↦
                (let same_venue : get_or after k other ≡ was = ap (λ n. get_or after n other) this ∙ (get_or_default after v other was within ∙ sym was_is) in
                let put : get_or (set after v now) k other ≡ now = ap (λ n. get_or (set after v now) n other) this ∙ get_or-set_same after v now other within in
                subst (IsJoined (legs_to k number 1 (take (at + 1) legs)) (get_or before k other)) (sym put)
                (record {
                  joined = items
                      ∙ (ap (λ x. x.released.items ++ leg ∷ []) (sym same_venue)
                      ∙ (ap (λ l. l ++ leg ∷ []) queue
                      ∙ (append_assoc (get_or before k other).released.items (legs_to k number 1 (take at legs)) (leg ∷ [])
                      ∙ ap (λ l. (get_or before k other).released.items ++ l)
                      (ap (λ l. legs_to k number 1 (take at legs) ++ l) (sym (legs_to-this k number (at + 1) routed (sym this))) ∙ sym legs_are))));
                  spare = cap ∙ (ap (λ x. vec_capacity x.released) (sym same_venue) ∙ capacity);
                  left = left ∙ (ap (λ x. x.left) (sym same_venue) ∙ lefts);
                }))
            | inr differs ↦
                (let kept : get_or (set after v now) k other ≡ get_or after k other = get_or-set_other after v k now other differs in
                subst (IsJoined (legs_to k number 1 (take (at + 1) legs)) (get_or before k other)) (sym kept)
                (record {
                  joined = queue
                      ∙ ap (λ l. (get_or before k other).released.items ++ l)
                      (sym (append-nil (legs_to k number 1 (take at legs)))
                      ∙ (ap (λ l. legs_to k number 1 (take at legs) ++ l) (sym (legs_to-other k number (at + 1) routed differs)) ∙ sym legs_are));
                  spare = capacity;
                  left = lefts;
                }))
          ];
      seen = map-set venue_seen after v now
          ∙ (ap (λ x. set (map venue_seen after) v x) same
          ∙ (sym (map-set venue_seen after v was)
          ∙ (ap (map venue_seen) (ap (set after v) was_is ∙ set-get_or after v was) ∙ joined.seen)));
      due = omega (arith, sum, sums, queue_long, gates, front, next, left, placed_was);
    }

-- all of them joined
pub enqueued_all : (number : ℕ) (legs : List Routed) (before after : List Venue) (at : ℕ) → length legs ≤ at → IsEnqueued number (take at legs) before after → IsEnqueued number legs before after
enqueued_all number legs before after at all joined = subst (λ l. IsEnqueued number l before after) (take_all at legs all) joined
