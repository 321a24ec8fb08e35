-- What the desk keeps, once a sweep is released.
use Rattle.std.proofs.Common.{◌≡◌, ℕ, suc, not, Err, if◌then◌else◌, ◌+◌, ◌-◌, ◌<◌, ◌≤◌, Bool, true, false, List, [], ◌∷◌, ◌++◌, length, map, drop, get_or, None, Ok, refl, ap, sym, ◌∙◌, subst, arith}
use Rattle.std.specs.Prelude.{◌||◌, ◌==◌, nat_le, nat_lt, sum_by, vec_len, vec_capacity}
use Rattle.std.proofs.lemmas.Bool.{ltb-false}
use Rattle.std.proofs.lemmas.Bool.Decides.{nat_tests}
use Rattle.std.proofs.lemmas.List.{get_or_default, length-append, length_push, length-drop, length-map}
use Rattle.std.specs.List.{All}
use Rattle.std.proofs.lemmas.List.Elements.{All-head, All-tail, All-push}
use Rattle.std.proofs.lemmas.List.Sums.{sum_by_push}
use Rattle.leg.specs.Answering.{Answers}
use Rattle.leg.specs.Refusing.{refused_if}
use Rattle.leg.specs.declared.sweep.Routed.{Routed}
use Rattle.share_ledger.specs.Entries.{sweep_shares}
use Rattle.sweep_release.specs.declared.desk.Desk.TheInside.{Inside}
use Rattle.sweep_release.specs.declared.desk_entry.DeskEntry.{DeskEntry}
use Rattle.sweep_release.specs.declared.desk_entry.DeskEntry.TheVariants as entry
use Rattle.sweep_release.specs.declared.receipt.Receipt.{Receipt}
use Rattle.sweep_release.specs.declared.release_fault.ReleaseFault.{ReleaseFault}
use Rattle.sweep_release.specs.declared.release_fault.ReleaseFault.TheVariants.{Empty, TooManyLegs, UnknownVenue, GateShut, SweepsSpent, OutOfMemory}
use Rattle.sweep_release.specs.declared.venue.Venue.{Venue}
use Rattle.sweep_release.specs.Released.{legs_to, released}
use Rattle.sweep_release.specs.Desk.{DeskParts, venue_at, placed, placed_shares, count_to, refused_at, is_up, gate_of, backlog_refusal, is_spent, release_refusal, next_number, with_sweep, release_unless, release}
use Rattle.sweep_release.specs.History.{KeptDesk, without_room, with_entries, release_entries}
use Rattle.sweep_release.specs.Kept.{desk_seen, released_sweeps, AreShort, venue_seen, IsKeptVenue, IsKept, HaveRoom, IsEnqueued}
use Rattle.sweep_release.proofs.Released.{released-push, length-legs_to}
use Rattle.sweep_release.proofs.Refusals.{all_known}
use Rattle.sweep_release.proofs.Backlog.{none_first, none_second, fits}
use Rattle.sweep_release.proofs.Changing.{released_sweeps-append, venue_at_seen}

-- what isn't refused isn't spent
neither : (a b : Bool) → (a || b) ≡ false → (a ≡ false) × (b ≡ false)
neither true b e = cc
neither false b e = (refl, e)

not_refused : (b : Bool) (fault : ReleaseFault) → refused_if b fault ≡ None → b ≡ false
not_refused true fault e = cc
not_refused false fault e = refl

pub unspent : (desk : DeskParts) (legs : List Routed) → release_refusal desk legs ≡ None → is_spent desk (sweep_shares legs) ≡ false
unspent desk legs e =
    not_refused (is_spent desk (sweep_shares legs)) SweepsSpent
    (none_second (backlog_refusal desk [] legs) _
    (none_second (refused_at GateShut (λ venue. not (is_up (gate_of desk venue))) legs) _
    (none_second (refused_at UnknownVenue (λ venue. nat_le (length desk.venues) venue) legs) _
    (none_second (refused_if (nat_lt 32 (length legs)) TooManyLegs) _
    (none_second (refused_if (length legs == 0) Empty) _ e)))))

pub number_left : (desk : DeskParts) (legs : List Routed) → release_refusal desk legs ≡ None → length desk.sweeps < 999999999999
number_left desk legs e =
    let parts = neither (nat_le 999999999999 (length desk.sweeps)) (nat_lt 1000000000000000000 (placed_shares desk + sweep_shares legs)) (unspent desk legs e) in
    let test = parts.0 in
    grind (arith, nat_tests)

pub shares_left : (desk : DeskParts) (legs : List Routed) → release_refusal desk legs ≡ None → placed_shares desk + sweep_shares legs ≤ 1000000000000000000
shares_left desk legs e =
    let parts = neither (nat_le 999999999999 (length desk.sweeps)) (nat_lt 1000000000000000000 (placed_shares desk + sweep_shares legs)) (unspent desk legs e) in
    ltb-false 1000000000000000000 (placed_shares desk + sweep_shares legs) parts.1

-- at most 256 legs are placed at a venue once the legs of a sweep that isn't refused joined them
pub fits_in : (desk : Inside) (legs : List Routed) (k : ℕ) (other : Venue) → IsKept desk → release_refusal (desk_seen desk).desk legs ≡ None → k < length desk.venues.items → length (get_or desk.venues.items k other).released.items + count_to k legs ≤ (get_or desk.venues.items k other).left + 256
fits_in desk legs k other h fine there =
    let all = h.venues in
    let at = get_or desk.venues.items k other in
    let kept = all k other there in
    let legs_are = kept.legs in
    let few = kept.few in
    let behind = kept.left in
    let left : (venue_at (desk_seen desk).desk k) ≡ venue_seen at = venue_at_seen desk k at there (get_or_default desk.venues.items k _ other there) in
    let same : placed (desk_seen desk).desk k ≡ length (drop at.left at.released.items) = ap (λ v. length (drop v.left (released k (released_sweeps desk.history.items)))) left ∙ ap (λ l. length (drop at.left l)) (sym legs_are) in
    let long : length (drop at.left at.released.items) ≡ length at.released.items - at.left = length-drop at.left at.released.items in
    let room = fits (desk_seen desk).desk k legs fine (omega (arith, same, long, few, behind)) in
    omega (arith, room, same, long, behind)

one_le : (b : Bool) (n m : ℕ) → n ≤ m → (if b then suc n else n) ≤ suc m
one_le true n m h = omega (arith, h)
one_le false n m h = omega (arith, h)

count-le : (venue : ℕ) (legs : List Routed) → count_to venue legs ≤ length legs
count-le venue [] = omega arith
count-le venue (routed ∷ legs) = let rest = count-le venue legs in one_le (routed.venue == venue) (count_to venue legs) (length legs) rest

pub have_room : (desk : Inside) (legs : List Routed) → IsKept desk → 1 + length legs ≤ desk.room → HaveRoom legs desk.venues.items
have_room desk legs h reserved = record {
  fits = λ k other there.
      let all = h.venues in
      let kept = all k other there in
      let spare = kept.spare in
      let few = count-le k legs in
      omega (arith, spare, few, reserved);
  left = λ k other there.
      let all = h.venues in
      let kept = all k other there in kept.left;
}

-- no leg of a sweep that isn't refused is for a venue that the desk hasn't got
known : (desk : Inside) (legs : List Routed) → release_refusal (desk_seen desk).desk legs ≡ None → All (λ (routed : Routed). routed.venue < length desk.venues.items) legs
known desk legs e =
    subst (λ (n : ℕ). All (λ (routed : Routed). routed.venue < n) legs) (length-map desk.venues.items venue_seen)
    (all_known (length (desk_seen desk).desk.venues) legs
    (none_first (refused_at UnknownVenue (λ venue. nat_le (length (desk_seen desk).desk.venues) venue) legs) _
    (none_second (refused_if (nat_lt 32 (length legs)) TooManyLegs) _
    (none_second (refused_if (length legs == 0) Empty) _ e))))

none_to : (venues k number place : ℕ) (legs : List Routed) → venues ≤ k → All (λ (routed : Routed). routed.venue < venues) legs → legs_to k number place legs ≡ []
none_to venues k number place [] past all = refl
none_to venues k number place (routed ∷ legs) past all =
    let first = All-head (λ (r : Routed). r.venue < venues) routed legs all in
    let other : (routed.venue == k) ≡ false = grind (arith, nat_tests) in
    rw other (none_to venues k number (suc place) legs past (All-tail (λ (r : Routed). r.venue < venues) routed legs all))

pub kept_released : (old new : Inside) (legs : List Routed) → IsKept old → release_refusal (desk_seen old).desk legs ≡ None → length legs ≤ 32 → IsEnqueued (old.sweeps + 1) legs old.venues.items new.venues.items → new.history.items ≡ old.history.items ++ entry.Released (record { legs = legs }) ∷ [] → new.sweeps ≡ old.sweeps + 1 → new.shares ≡ old.shares + sweep_shares legs → new.due ≡ old.due + length legs → new.room + (1 + length legs) ≡ old.room → vec_len new.history + new.due + new.room ≤ vec_capacity new.history → IsKept new
kept_released old new legs h fine short joined history_is sweeps_are shares_are due_is room_is room =
    let all = h.venues in
    let count = h.count in
    let shares = h.shares in
    let due = h.due in
    let few_venues = h.few_venues in
    let elsewhere = h.elsewhere in
    let were_short = h.short in
    let before = released_sweeps old.history.items in
    let more : released_sweeps new.history.items ≡ before ++ legs ∷ [] = ap released_sweeps history_is ∙ released_sweeps-append old.history.items (entry.Released (record { legs = legs }) ∷ []) in
    let longer : length (before ++ legs ∷ []) ≡ length before + 1 = length_push before legs in
    let many = joined.many in
    let number = number_left (desk_seen old).desk legs fine in
    let total = shares_left (desk_seen old).desk legs fine in
    let sums = joined.due in
    record {
      venues = λ k other there.
          let inside : k < length old.venues.items = omega (arith, there, many) in
          let was = get_or old.venues.items k other in
          let now = get_or new.venues.items k other in
          let kept = all k other inside in
          let legs_are = kept.legs in
          let spare = kept.spare in
          let behind = kept.left in
          let counted = kept.counted in
          let here = joined.joined k other inside in
          let items = here.joined in
          let cap = here.spare in
          let left = here.left in
          let fit = fits_in old legs k other h fine inside in
          let long = ap length items ∙ length-append was.released.items (legs_to k (old.sweeps + 1) 1 legs) in
          let as_many = length-legs_to k (old.sweeps + 1) 1 legs in
          let few = count-le k legs in
          let next : old.sweeps + 1 ≡ length before + 1 = ap (λ n. n + 1) count in
          let legs_now : now.released.items ≡ released k (before ++ legs ∷ []) =
          items
          ∙ (ap (λ l. l ++ legs_to k (old.sweeps + 1) 1 legs) legs_are
          ∙ (ap (λ n. released k before ++ legs_to k n 1 legs) next
          ∙ sym (released-push k before legs))) in
          subst (λ s. IsKeptVenue s new.room k now) (sym more)
          (record {
            legs = legs_now;
            left = omega (arith, long, left, behind);
            few = omega (arith, long, as_many, fit, left);
            counted = omega (arith, long, as_many, counted, longer, few, short);
            spare = omega (arith, spare, cap, long, as_many, few, room_is, was.released.ok.0, now.released.ok.0);
          });
      count = sweeps_are ∙ (ap (λ n. n + 1) count ∙ (sym longer ∙ ap length (sym more)));
      shares = shares_are ∙ (ap (λ n. n + sweep_shares legs) shares ∙ (sym (sum_by_push sweep_shares before legs) ∙ ap (sum_by sweep_shares) (sym more)));
      few = omega (arith, number, count, sweeps_are);
      bounded = omega (arith, total, shares, shares_are);
      due = omega (arith, due, due_is, sums);
      spare = room;
      few_venues = omega (arith, few_venues, many);
      elsewhere = λ k past.
          let beyond : length old.venues.items ≤ k = omega (arith, past, many) in
          ap (released k) more
          ∙ (released-push k before legs
          ∙ (ap (λ l. l ++ legs_to k (length before + 1) 1 legs) (elsewhere k beyond)
          ∙ none_to (length old.venues.items) k (length before + 1) 1 legs beyond (known old legs fine)));
      short = subst AreShort (sym more) (All-push (λ (l : List Routed). length l ≤ 32) before legs were_short short);
    }

-- the desk as it is seen
pub seen_released : (old : Inside) (seen : KeptDesk) (legs : List Routed) (venues : List Venue) (items : List DeskEntry) (number : ℕ) → desk_seen old ≡ seen → IsEnqueued number legs old.venues.items venues → items ≡ old.history.items ++ entry.Released (record { legs = legs }) ∷ [] → (let after : DeskParts = record { sweeps = released_sweeps items; venues = map venue_seen venues } in after ≡ with_sweep legs seen.desk)
seen_released old seen legs venues items number e joined history_is =
    let after : DeskParts = record { sweeps = released_sweeps items; venues = map venue_seen venues } in
    let more : released_sweeps items ≡ released_sweeps old.history.items ++ legs ∷ [] = ap released_sweeps history_is ∙ released_sweeps-append old.history.items (entry.Released (record { legs = legs }) ∷ []) in
    let same = joined.seen in
    let here : after ≡ with_sweep legs (desk_seen old).desk = λ k. record { sweeps = more k; venues = same k } in
    here ∙ ap (λ s. with_sweep legs s.desk) e

-- what is answered where a sweep isn't refused
pub released_whole : (seen now : KeptDesk) (legs : List Routed) (receipt : Receipt) → release_refusal seen.desk legs ≡ None → receipt.number ≡ next_number seen.desk → receipt.shares ≡ sweep_shares legs → now.desk ≡ with_sweep legs seen.desk → now.history ≡ seen.history ++ entry.Released (record { legs = legs }) ∷ [] → Answers OutOfMemory (without_room seen) (with_entries (without_room seen) (release_entries legs (release seen.desk legs).0) (release seen.desk legs)) (Ok receipt) (without_room now)
released_whole seen now legs receipt fine number shares desk_is history_is =
    subst (λ r. Answers OutOfMemory (without_room seen) (with_entries (without_room seen) (release_entries legs (release_unless r seen.desk legs).0) (release_unless r seen.desk legs)) (Ok receipt) (without_room now)) (sym fine)
    ((λ k. record { number = number k; shares = shares k }), (λ k. record { desk = desk_is k; history = history_is k }))

pub release_wanting : (seen now : KeptDesk) (legs : List Routed) → release_refusal seen.desk legs ≡ None → without_room now ≡ without_room seen → Answers OutOfMemory (without_room seen) (with_entries (without_room seen) (release_entries legs (release seen.desk legs).0) (release seen.desk legs)) (Err OutOfMemory) (without_room now)
release_wanting seen now legs fine same =
    subst (λ r. Answers OutOfMemory (without_room seen) (with_entries (without_room seen) (release_entries legs (release_unless r seen.desk legs).0) (release_unless r seen.desk legs)) (Err OutOfMemory) (without_room now)) (sym fine) (refl, same)
