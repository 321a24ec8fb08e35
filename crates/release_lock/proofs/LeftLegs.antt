-- The legs that left the desk, and the feeds, after a change.
use Rattle.std.proofs.Common.{◌≡◌, ◌≢◌, ◌⊎◌, ℕ, zero, suc, ◌+◌, ◌≤◌, inl, inr, List, [], ◌∷◌, ◌++◌, length, take, drop, set, slice_get, Some, refl, ap, sym, ◌∙◌, subst, arith, ⊎_elim}
use Rattle.std.proofs.lemmas.List.{take-append-le}
use Rattle.atomic_table.specs.Seated.{TableId}
use Rattle.leg.specs.declared.leg.Leg.{Leg}
use Rattle.leg.specs.declared.placed_leg.PlacedLeg.{PlacedLeg}
use Rattle.leg.specs.declared.sweep.Routed.{Routed}
use Rattle.venue_queue.specs.Port.{Port}
use Rattle.sweep_release.specs.Released.{legs_to, released}
use Rattle.sweep_release.specs.Desk.{DeskParts, venue_at, with_sweep}
use Rattle.sweep_release.specs.Laws.{ChangesOnly, IsCounted}
use Rattle.sweep_release.proofs.Released.{released-push}
use Rattle.release_lock.specs.Queues.{placed_from, released_to, left_to, IsFed, AreFed}

pub length-placed_from : (ordinal : ℕ) (legs : List Leg) → length (placed_from ordinal legs) ≡ length legs
length-placed_from ordinal [] = refl
length-placed_from ordinal (leg ∷ legs) = ap suc (length-placed_from (suc ordinal) legs)

placed_from-append : (ordinal : ℕ) (xs ys : List Leg)
    → placed_from ordinal (xs ++ ys) ≡ placed_from ordinal xs ++ placed_from (ordinal + length xs) ys
placed_from-append ordinal [] ys =
    let same : ordinal ≡ ordinal + 0 = omega arith in ap (λ n. placed_from n ys) same
placed_from-append ordinal (leg ∷ xs) ys =
    let same : suc ordinal + length xs ≡ ordinal + suc (length xs) = omega arith in
    let first : PlacedLeg = record { ordinal = ordinal; leg = leg } in
    ap (λ l. first ∷ l) (placed_from-append (suc ordinal) xs ys)
    ∙ ap (λ n. first ∷ placed_from (suc ordinal) xs ++ placed_from n ys) same

-- where neither the sweeps nor the count of the legs that left changed
pub left_as : (before after : DeskParts) (venue : ℕ) → after.sweeps ≡ before.sweeps
    → (venue_at after venue).left ≡ (venue_at before venue).left → left_to after venue ≡ left_to before venue
left_as before after venue sweeps left =
    ap (λ n. take n (released_to after venue)) left
    ∙ ap (λ s. take (venue_at before venue).left (placed_from 1 (released venue s))) sweeps

-- a change at another venue
pub left_elsewhere : (before after : DeskParts) (venue other : ℕ) → ChangesOnly venue before after → other ≢ venue
    → left_to after other ≡ left_to before other
left_elsewhere before after venue other only differs =
    left_as before after other only.sweeps (ap (λ v. v.left) (only.others other differs))

-- a sweep more is released, behind the legs that left
pub left_released : (desk : DeskParts) (legs : List Routed) (venue : ℕ) → IsCounted desk venue
    → left_to (with_sweep legs desk) venue ≡ left_to desk venue
left_released desk legs venue counted =
    let left = (venue_at desk venue).left in
    let all = released venue desk.sweeps in
    let more = legs_to venue (length desk.sweeps + 1) 1 legs in
    let within : left ≤ length (placed_from 1 all) =
    (let sum = counted.all in let long = length-placed_from 1 all in omega (arith, sum, long)) in
    ap (λ l. take left (placed_from 1 l)) (released-push venue desk.sweeps legs)
    ∙ (ap (take left) (placed_from-append 1 all more)
    ∙ take-append-le left (placed_from 1 all) (placed_from (1 + length all) more) within)

-- the first so many of the placed legs, and the next one
pub take_next : (n ordinal : ℕ) (legs : List Leg) (leg : Leg) (rest : List Leg) → drop n legs ≡ leg ∷ rest
    → take (suc n) (placed_from ordinal legs)
    ≡ take n (placed_from ordinal legs) ++ record { ordinal = ordinal + n; leg = leg } ∷ []
take_next zero ordinal [] leg rest e = absurd cc
take_next (suc n) ordinal [] leg rest e = absurd cc
take_next zero ordinal (x ∷ legs) leg rest e =
    let same : x ≡ leg = cc in
    let number : ordinal ≡ ordinal + 0 = omega arith in
    λ i. record { ordinal = number i; leg = same i } ∷ []
take_next (suc n) ordinal (x ∷ legs) leg rest e =
    let number : suc ordinal + n ≡ ordinal + suc n = omega arith in
    let first : PlacedLeg = record { ordinal = ordinal; leg = x } in
    ap (λ l. first ∷ l) (take_next n (suc ordinal) legs leg rest e)
    ∙ ap (λ k. first ∷ take n (placed_from (suc ordinal) legs) ++ record { ordinal = k; leg = leg } ∷ []) number

-- what holds of each feed holds where the legs that left are the same
pub fed_as : (queues : List TableId) (before after : DeskParts) (feeds : List Port)
    → ((venue : ℕ) → left_to after venue ≡ left_to before venue) → AreFed queues before feeds → AreFed queues after feeds
fed_as queues before after feeds same fed venue feed at =
    let it = fed venue feed at in
    record { queue = it.queue; room = it.room; legs = it.legs ∙ sym (same venue) }

-- an element is the one that was put, or another that stood there
at_set : {A : Type 0} (l : List A) (i j : ℕ) (a b : A) → slice_get (set l i a) j ≡ Some b
    → ((j ≡ i) × (a ≡ b)) ⊎ ((j ≢ i) × (slice_get l j ≡ Some b))
at_set [] i j a b e = absurd cc
at_set (x ∷ xs) zero zero a b e = inl (refl, cc)
at_set (x ∷ xs) zero (suc j) a b e = inr ((λ h. omega arith), e)
at_set (x ∷ xs) (suc i) zero a b e = inr ((λ h. omega arith), e)
at_set (x ∷ xs) (suc i) (suc j) a b e =
    ⊎_elim (λ t. inl (ap suc t.0, t.1)) (λ t. let n = t.0 in inr ((λ h. n (omega arith)), t.1)) (at_set xs i j a b e)

-- one feed is changed, with the desk at its venue
pub fed_set : (queues : List TableId) (before after : DeskParts) (feeds : List Port) (venue : ℕ) (old new : Port)
    → ChangesOnly venue before after → slice_get feeds venue ≡ Some old → new.table ≡ old.table → new.room ≡ old.room
    → new.legs ≡ left_to after venue → AreFed queues before feeds → AreFed queues after (set feeds venue new)
fed_set queues before after feeds venue old new only at table room legs fed other feed now =
    ⊎_elim
    (λ (here : (other ≡ venue) × (new ≡ feed)).
    let was = fed venue old at in
    let mine : IsFed queues after venue new =
    record { queue = was.queue ∙ ap (λ (t : TableId). Some t) (sym table); room = room ∙ was.room; legs = legs } in
    subst (λ (w : ℕ × Port). IsFed queues after w.0 w.1) (λ i. (sym here.0 i, here.1 i)) mine)
    (λ (there : (other ≢ venue) × (slice_get feeds other ≡ Some feed)).
    let was = fed other feed there.1 in
    record { queue = was.queue; room = was.room; legs = was.legs ∙ sym (left_elsewhere before after venue other only there.0) })
    (at_set feeds venue other new feed now)
