-- A lock is made over new rings, one after the other.
use Rattle.std.proofs.Common.{◌≡◌, ℕ, zero, suc, ◌+◌, ◌≤◌, List, [], ◌∷◌, ◌++◌, length, map, take, drop, slice_get, All, Some, refl, ap, sym, ◌∙◌, subst, arith, add-one}
use Rattle.std.proofs.lemmas.List.{length-append, length-map, length-replicate}
use Rattle.std.proofs.lemmas.List.Elements.{All-head, All-tail}
use Rattle.atomic_table.specs.Seated.{TableId}
use Rattle.venue_queue.specs.Port.{Port}
use Rattle.sweep_release.specs.Desk.{new_desk}
use Rattle.sweep_release.specs.History.{KeptDesk, without_room}
use Rattle.sweep_release.proofs.Venues.{left-new_desk}
use Rattle.release_lock.specs.Queues.{IsFresh, DrainParts, new_drains, released_to, left_to}
use Rattle.release_lock.specs.Locked.{placed_count, IsLocked}
use Rattle.release_lock.proofs.Replaying.{replays_new}

-- what stands first behind n stands at n
drop_head : {A : Type 0} (xs : List A) (n : ℕ) (y : A) (ys : List A) → drop n xs ≡ y ∷ ys
    → (slice_get xs n ≡ Some y) × (drop (n + 1) xs ≡ ys)
drop_head [] zero y ys e = absurd cc
drop_head [] (suc n) y ys e = absurd cc
drop_head (x ∷ xs) zero y ys e = (cc, cc)
drop_head (x ∷ xs) (suc n) y ys e = let r = drop_head xs n y ys e in (r.0, rw add-one (rw add-one at r.1))

-- what holds of each holds of one more
all_more : {A : Type 0} (P : ℕ → A → Type 0) (xs : List A) (y : A)
    → ((v : ℕ) (p : A) → slice_get xs v ≡ Some p → P v p) → P (length xs) y
    → (v : ℕ) (p : A) → slice_get (xs ++ y ∷ []) v ≡ Some p → P v p
all_more P [] y each last zero p at = let same : y ≡ p = cc in subst (P 0) same last
all_more P [] y each last (suc v) p at = absurd cc
all_more P (x ∷ xs) y each last zero p at = each zero p at
all_more P (x ∷ xs) y each last (suc v) p at = all_more (λ k. P (suc k)) xs y (λ k. each (suc k)) last v p at

-- a feed of a new ring, at its venue
abbrev IsNew : List TableId → ℕ → Port → Type 0
IsNew queues venue feed = (slice_get queues venue ≡ Some feed.table) × (feed.room ≡ 64) × (feed.legs ≡ [])

-- how far it is: the rings that are left are those of the names that are left
pub record Opening (queues : List TableId) (venues number : ℕ) (rings : List (Port × Port)) (feeds : List Port)
    (drains : List DrainParts) : Type 0 where
  pub names : drop number queues ≡ map (λ (ends : Port × Port). ends.0.table) rings
  pub count : number + length rings ≡ venues
  pub fresh : All IsFresh rings
  pub many : length feeds ≡ number
  pub new : (venue : ℕ) (feed : Port) → slice_get feeds venue ≡ Some feed → IsNew queues venue feed
  pub drained : drains ≡ new_drains number
  pub as_many : length drains ≡ number

pub opening_begins : (queues : List TableId) (venues : ℕ) (rings : List (Port × Port)) → length rings ≡ venues
    → All IsFresh rings → queues ≡ map (λ (ends : Port × Port). ends.0.table) rings → Opening queues venues 0 rings [] []
opening_begins queues venues rings count fresh names = record {
  names = names;
  count = omega (arith, count);
  fresh = fresh;
  many = refl;
  new = λ venue feed at. absurd cc;
  drained = refl;
  as_many = refl;
}

module _ (queues : List TableId) (venues number : ℕ) (feed drain : Port) (rings : List (Port × Port)) (feeds : List Port)
    (drains : List DrainParts) (so_far : Opening queues venues number ((feed, drain) ∷ rings) feeds drains) where
  head : (slice_get queues number ≡ Some feed.table)
      × (drop (number + 1) queues ≡ map (λ (ends : Port × Port). ends.0.table) rings)
  head = drop_head queues number feed.table (map (λ (ends : Port × Port). ends.0.table) rings) so_far.names

  fresh_head : IsFresh (feed, drain)
  fresh_head = All-head IsFresh (feed, drain) rings so_far.fresh

  -- the drain is of the ring that the run names
  pub drain_named : slice_get queues number ≡ Some drain.table
  drain_named = head.0 ∙ ap (λ (t : TableId). Some t) fresh_head.one_ring

  pub opens_on : Opening queues venues (number + 1) rings (feeds ++ feed ∷ [])
      (drains ++ record { venue = number; popped = drain.legs } ∷ [])
  opens_on =
      let here : IsNew queues number feed = (head.0, fresh_head.room, fresh_head.pushed) in
      let last : new_drains (suc number) ≡ new_drains (number + 1) = ap new_drains (sym (add-one number)) in
      record {
        names = head.1;
        count = (let c = so_far.count in omega (arith, c));
        fresh = All-tail IsFresh (feed, drain) rings so_far.fresh;
        many = (let m = so_far.many in omega (arith, length-append feeds (feed ∷ []), m));
        new = all_more (IsNew queues) feeds feed so_far.new (subst (λ n. IsNew queues n feed) (sym so_far.many) here);
        drained = ap (λ l. l ++ record { venue = number; popped = drain.legs } ∷ []) so_far.drained
            ∙ (ap (λ p. new_drains number ++ record { venue = number; popped = p } ∷ []) fresh_head.popped ∙ last);
        as_many = (let m = so_far.as_many in
            omega (arith, length-append drains (record { venue = number; popped = drain.legs } ∷ []), m));
      }

-- what is kept under a new lock
pub new_locked : (queues : List TableId) (venues number : ℕ) (all rings : List (Port × Port)) (feeds : List Port)
    (drains : List DrainParts) (desk : KeptDesk) (total : ℕ) → venues ≤ 16 → length all ≡ venues
    → queues ≡ map (λ (ends : Port × Port). ends.0.table) all → Opening queues venues number rings feeds drains
    → number ≡ venues → without_room desk ≡ record { desk = new_desk venues; history = [] } → total ≡ 0
    → IsLocked queues desk total feeds
new_locked queues venues number all rings feeds drains desk total high count names made done new zero_total =
    let table = λ (ends : Port × Port). ends.0.table in
    let many : length queues ≡ venues = ap length names ∙ (length-map all table ∙ count) in
    let desk_is : desk.desk ≡ new_desk venues = ap (λ d. d.desk) new in
    record {
      few = omega (arith, many, high);
      venues = ap (λ d. length d.venues) desk_is ∙ (length-replicate venues _ ∙ sym many);
      replays = replays_new venues desk desk_is (ap (λ d. d.history) new);
      counted = zero_total ∙ sym (ap placed_count desk_is);
      many = made.many ∙ (done ∙ sym many);
      fed = λ venue feed at.
          let it = made.new venue feed at in
          let none : left_to desk.desk venue ≡ []
          = ap (λ d. left_to d venue) desk_is
          ∙ ap (λ n. take n (released_to (new_desk venues) venue)) (left-new_desk venues venue) in
          record { queue = it.0; room = it.1; legs = it.2 ∙ sym none };
    }
