-- What the ledger keeps, once one leg changed.
use Rattle.std.proofs.Common.{◌≡◌, ℕ, zero, suc, ◌+◌, ◌-◌, ◌<◌, ◌≤◌, inl, inr, true, false, List, [], ◌∷◌, ◌++◌, length, set, Option, Some, None, refl, ap, sym, ◌∙◌, subst, arith, if◌then◌else◌}
use Rattle.std.specs.Prelude.{◌==◌, slice_get, option_map, option_and_then, sum_by, get_or, vec_len, vec_capacity}
use Rattle.std.specs.Global.{Vec}
use Rattle.std.proofs.lemmas.Bool.{cases_Bool, cases_eq, eq-eqb, ne_eqb}
use Rattle.std.proofs.lemmas.List.{append-nil, get_or-set_same, get_or-set_other, length-set}
use Rattle.std.proofs.lemmas.List.Sums.{sum_by-le-sum_by}
use Rattle.std.proofs.lemmas.Option.{slice_get_within}
use Rattle.leg.specs.LegId.{LegIdParts}
use Rattle.leg.specs.Numbered.{numbered}
use Rattle.leg.specs.Split.{SplitParts, leg_shares}
use Rattle.leg.specs.declared.sweep.Routed.{Routed}
use Rattle.share_ledger.specs.declared.book_entry.BookEntry.{BookEntry}
use Rattle.share_ledger.specs.declared.ledger.Ledger.{Ledger}
use Rattle.share_ledger.specs.Entries.{sweep_shares, opened, order_of, is_same_leg}
use Rattle.share_ledger.specs.Book.{BookParts, BookedLeg, new_book, written, replay}
use Rattle.share_ledger.specs.Kept.{ledger_seen, kept_leg, booked_leg, sum_over, legs_due, resolved_at, ChangesLeg, IsKept}
use Rattle.share_ledger.proofs.OneMore.{opened-append, is_same_leg-true}
use Rattle.share_ledger.proofs.Sound.{IsSound, sound-new, sound-replay}
use Rattle.share_ledger.proofs.Adding.{leg_adds_up}
use Rattle.share_ledger.proofs.Outcomes.{replayed-again}
use Rattle.share_ledger.proofs.KeptLegs.{set-this, set-other, put-this, put-other, put-sum}

-- a book that its history leads to is sound
pub sound_kept : (ledger : Ledger) → IsKept ledger → IsSound (ledger_seen ledger)
sound_kept ledger h =
    subst IsSound h.replays
    (sound-replay (new_book (length ledger.resolved.items)) ledger.history.items
    (sound-new (length ledger.resolved.items)))

-- what is kept of a leg is of an order
pub order_kept : (book : BookParts) (id : LegIdParts) (order : Option Routed) (leg : BookedLeg)
    → option_map (booked_leg book id) order ≡ Some leg
    → (routed : Routed) × (order ≡ Some routed) × (leg ≡ booked_leg book id routed)
order_kept book id None leg e = cc
order_kept book id (Some routed) leg e = (routed, refl, cc)

-- where a kept leg stands
pub record StandsAt (sweeps : List (Vec BookedLeg)) (id : LegIdParts) (leg : BookedLeg) : Type 0 where
  pub i : ℕ
  pub j : ℕ
  pub sweep : id.sweep ≡ suc i
  pub place : id.place ≡ suc j
  pub legs : Vec BookedLeg
  pub sweep_is : slice_get sweeps i ≡ Some legs
  pub leg_is : slice_get legs.items j ≡ Some leg

stands_in : (sweeps : List (Vec BookedLeg)) (i : ℕ) (place : ℕ) (leg : BookedLeg) (sweep : Option (Vec BookedLeg))
    → slice_get sweeps i ≡ sweep → option_and_then (λ legs. numbered place legs.items) sweep ≡ Some leg
    → StandsAt sweeps (record { sweep = suc i; place = place }) leg
stands_in sweeps i zero leg (Some legs) e f = cc
stands_in sweeps i (suc j) leg (Some legs) e f =
    record { i = i; j = j; sweep = refl; place = refl; legs = legs; sweep_is = e; leg_is = f }
stands_in sweeps i place leg None e f = cc

pub stands_at : (sweeps : List (Vec BookedLeg)) (sweep place : ℕ) (leg : BookedLeg)
    → kept_leg (record { sweep = sweep; place = place }) sweeps ≡ Some leg
    → StandsAt sweeps (record { sweep = sweep; place = place }) leg
stands_at sweeps zero place leg e = cc
stands_at sweeps (suc i) place leg e = stands_in sweeps i place leg (slice_get sweeps i) refl e

pub stands_kept : (ledger : Ledger) (id : LegIdParts) (leg : BookedLeg) → IsKept ledger
    → option_map (booked_leg (ledger_seen ledger) id) (order_of id ledger.history.items) ≡ Some leg
    → StandsAt ledger.sweeps.items id leg
stands_kept ledger id leg h e = let legs = h.legs in stands_at ledger.sweeps.items id.sweep id.place leg (legs id ∙ e)

-- what is due and resolved follows what is open, where the shares stay
due-le : (a b : SplitParts) → leg_shares a ≡ leg_shares b → b.still_open ≤ a.still_open
    → (if b.still_open == leg_shares b then 1 else 0) ≤ (if a.still_open == leg_shares a then 1 else 0)
due-le a b same less =
    elim (cases_eq b.still_open (leg_shares b)) [
      | inl whole ↦
          (let other : a.still_open ≡ leg_shares a = omega (arith, whole, same, less) in
          rw (eq-eqb b.still_open (leg_shares b) whole, eq-eqb a.still_open (leg_shares a) other) (omega arith))
      | inr moved ↦ rw (ne_eqb b.still_open (leg_shares b) moved) (omega arith)
    ]

resolved_if : (venue : ℕ) (leg : BookedLeg) → resolved_at venue leg ≤ leg_shares leg.parts
resolved_if venue leg =
    elim (cases_Bool (leg.venue == venue)) [ inl this ↦ rw this (omega arith) | inr other ↦ rw other (omega arith) ]

-- a venue's resolved shares are at most all shares
pub resolved-le : (venue : ℕ) (sweeps : List (Vec BookedLeg))
    → sum_over (resolved_at venue) sweeps ≤ sum_over (λ leg. leg_shares leg.parts) sweeps
resolved-le venue sweeps =
    sum_by-le-sum_by (λ legs. sum_by (resolved_at venue) legs.items)
    (λ legs. sum_by (λ leg. leg_shares leg.parts) legs.items) sweeps
    (λ legs. sum_by-le-sum_by (resolved_at venue) (λ leg. leg_shares leg.parts) legs.items (resolved_if venue))

module _ (old : Ledger) (id : LegIdParts) (was now : BookedLeg) (entry : BookEntry) (h : IsKept old)
    (change : ChangesLeg id was now entry (ledger_seen old)) where
  seen : BookParts
  seen = ledger_seen old

  pub changed_replays : replay (new_book (length old.resolved.items)) (old.history.items ++ entry ∷ []) ≡ written entry
      (ledger_seen old)
  changed_replays =
      let writes = change.writes in
      ap (λ b. replay (new_book (length old.resolved.items)) b.entries) (sym writes)
      ∙ (replayed-again (length old.resolved.items) (ledger_seen old) entry h.replays ∙ writes)

  pub changed_opened : opened (old.history.items ++ entry ∷ []) ≡ opened old.history.items
  changed_opened =
      opened-append old.history.items (entry ∷ [])
      ∙ (ap (λ l. opened old.history.items ++ l) change.opens_none ∙ append-nil (opened old.history.items))

  pub changed_order : (other : LegIdParts)
      → order_of other (old.history.items ++ entry ∷ []) ≡ order_of other old.history.items
  changed_order other = ap (λ sweeps. option_and_then (numbered other.place) (numbered other.sweep sweeps))
      changed_opened

  changed_sound : IsSound (written entry (ledger_seen old))
  changed_sound =
      subst IsSound changed_replays
      (sound-replay (new_book (length old.resolved.items)) (old.history.items ++ entry ∷ [])
      (sound-new (length old.resolved.items)))

  pub changed_leg : (routed : Routed) × (order_of id old.history.items ≡ Some routed)
      × (was ≡ booked_leg (ledger_seen old) id routed) × (now ≡ booked_leg (written entry (ledger_seen old)) id routed)
  changed_leg =
      let first = order_kept (ledger_seen old) id (order_of id old.history.items) was change.before in
      let second = order_kept (written entry (ledger_seen old)) id (order_of id old.history.items) now change.after in
      let found = first.1 in
      let also = second.1 in
      let same : second.0 ≡ first.0 = cc in
      (first.0, first.1, first.2, second.2 ∙ ap (booked_leg (written entry (ledger_seen old)) id) same)

  -- the leg's venue and shares stay
  pub changed_venue : now.venue ≡ was.venue
  changed_venue = let it = changed_leg in ap (λ l. l.venue) it.3 ∙ sym (ap (λ l. l.venue) it.2)

  pub changed_shares : leg_shares now.parts ≡ leg_shares was.parts
  changed_shares =
      let it = changed_leg in
      ap (λ l. leg_shares l.parts) it.3
      ∙ (leg_adds_up (written entry (ledger_seen old)) id it.0 changed_sound (changed_order id ∙ it.1)
      ∙ (sym (leg_adds_up (ledger_seen old) id it.0 (sound_kept old h) it.1) ∙ sym (ap (λ l. leg_shares l.parts) it.2)))

  pub changed_due : legs_due now ≤ legs_due was
  changed_due = due-le was.parts now.parts (sym changed_shares) change.less

  pub changed_stands : StandsAt old.sweeps.items id was
  changed_stands = stands_kept old id was h change.before

  pub changed_there : was.venue < length old.resolved.items
  changed_there =
      let known = h.known in
      let legs = h.legs in
      known id was (legs id ∙ change.before)

  changed_resolved_at : (venue : ℕ)
      → resolved_at venue now ≡ resolved_at venue was +
      (if was.venue == venue then was.parts.still_open - now.parts.still_open else 0)
  changed_resolved_at venue =
      let less = change.less in
      let same = changed_shares in
      elim (cases_Bool (was.venue == venue)) [
        | inl this ↦
            (let here : (now.venue == venue) ≡ true = ap (λ v. v == venue) changed_venue ∙ this in
            rw (this, here) (omega (arith, less, same)))
        | inr other ↦
            (let there : (now.venue == venue) ≡ false = ap (λ v. v == venue) changed_venue ∙ other in
            rw (other, there) (omega arith))
      ]

  module _ (after : Vec BookedLeg) (after_is : after.items ≡ set changed_stands.legs.items changed_stands.j now) where
    sweeps_now : List (Vec BookedLeg)
    sweeps_now = set old.sweeps.items changed_stands.i after

    sum_now : (f : BookedLeg → ℕ)
        → sum_over f (set old.sweeps.items changed_stands.i after) + f was ≡ sum_over f old.sweeps.items + f now
    sum_now f =
        let at = changed_stands in
        put-sum old.sweeps.items at.i at.j at.legs after was now at.sweep_is at.leg_is after_is f

    pub resolved_now : (venue : ℕ)
        → sum_over (resolved_at venue) (set old.sweeps.items changed_stands.i after) ≡ sum_over
        (resolved_at venue) old.sweeps.items +
        (if was.venue == venue then was.parts.still_open - now.parts.still_open else 0)
    resolved_now venue = let sum = sum_now (resolved_at venue) in let one = changed_resolved_at venue in omega
        (arith, sum, one)

    pub all_now : sum_over (λ leg. leg_shares leg.parts) (set old.sweeps.items changed_stands.i after) ≡ old.shares
    all_now =
        let sum = sum_now (λ leg. leg_shares leg.parts) in
        let same = changed_shares in
        let all = h.all in
        omega (arith, sum, same, all)

    -- what is added to a venue's sum fits
    pub gain_fits : get_or old.resolved.items was.venue 0 + (was.parts.still_open - now.parts.still_open)
        ≤ 1000000000000000000
    gain_fits =
        let resolved = h.resolved in
        let before = resolved was.venue changed_there in
        let more = resolved_now was.venue in
        let test : (was.venue == was.venue) ≡ true = eq-eqb was.venue was.venue refl in
        let gained : (if was.venue == was.venue then was.parts.still_open - now.parts.still_open else 0) ≡
        was.parts.still_open - now.parts.still_open = rw test refl in
        let bound = resolved-le was.venue (set old.sweeps.items changed_stands.i after) in
        let all = all_now in
        let few = h.few in
        omega (arith, before, more, gained, bound, all, few)

    same_leg : (other : LegIdParts)
        → is_same_leg id other ≡ is_same_leg
        (record { sweep = suc changed_stands.i; place = suc changed_stands.j }) other
    same_leg other =
        let at = changed_stands in
        ap (λ k. is_same_leg k other) (λ n. let s = at.sweep in let p = at.place in record { sweep = s n; place = p n })

    same_kept : (other : LegIdParts) → is_same_leg id other ≡ false → (order : Option Routed)
        → option_map (booked_leg (ledger_seen old) other) order ≡ option_map
        (booked_leg (written entry (ledger_seen old)) other) order
    same_kept other differs None = refl
    same_kept other differs (Some routed) =
        let others = change.others in
        let parts = sym (others other routed.terms.shares differs) in
        λ n. Some (record { venue = routed.venue; parts = parts n })

    legs_now : (other : LegIdParts)
        → kept_leg other (set old.sweeps.items changed_stands.i after) ≡ option_map
        (booked_leg (written entry (ledger_seen old)) other) (order_of other (old.history.items ++ entry ∷ []))
    legs_now other =
        let at = changed_stands in
        let legs = h.legs in
        elim (cases_Bool (is_same_leg id other)) [
          | inl this ↦
              (let path = is_same_leg-true id other this in
              let here : (let k : LegIdParts = record { sweep = suc at.i; place = suc at.j } in k) ≡ other =
              (λ n. let s = sym at.sweep in let p = sym at.place in record { sweep = s n; place = p n }) ∙ path in
              subst (λ k. kept_leg k (set old.sweeps.items at.i after) ≡ Some now) here
              (put-this old.sweeps.items at.i at.j at.legs after was now at.sweep_is at.leg_is after_is)
              ∙ (sym (subst (λ k. option_map (booked_leg (written entry (ledger_seen old)) k)
              (order_of k old.history.items) ≡ Some now) path change.after)
              ∙ ap (option_map (booked_leg (written entry (ledger_seen old)) other)) (sym (changed_order other))))
          | inr differs ↦
              put-other old.sweeps.items at.i at.j at.legs after was now at.sweep_is at.leg_is after_is other.sweep
              other.place (sym (same_leg other) ∙ differs)
              ∙ (legs other
              ∙ (same_kept other differs (order_of other old.history.items)
              ∙ ap (option_map (booked_leg (written entry (ledger_seen old)) other)) (sym (changed_order other))))
        ]

    short_now : (number : ℕ) (legs : Vec BookedLeg)
        → numbered number (set old.sweeps.items changed_stands.i after) ≡ Some legs → length legs.items ≤ 32
    short_now zero legs e = cc
    short_now (suc n) legs e =
        let at = changed_stands in
        let short = h.short in
        elim (cases_eq n at.i) [
          | inl same ↦
              (let here : slice_get
              (set old.sweeps.items at.i after) n ≡ Some after = ap (slice_get (set old.sweeps.items at.i after))
              same ∙ set-this old.sweeps.items at.i after
              (slice_get_within old.sweeps.items at.i at.legs at.sweep_is) in
              let this : after ≡ legs = cc in
              let bound = short (suc at.i) at.legs at.sweep_is in
              omega (
                arith,
                bound,
                ap (λ l. length l.items)
                    (sym this),
                ap length after_is,
                length-set at.legs.items at.j now,
              ))
          | inr other ↦ short (suc n) legs (sym (set-other old.sweeps.items at.i n after other) ∙ e)
        ]

    known_now : (other : LegIdParts) (leg : BookedLeg)
        → kept_leg other (set old.sweeps.items changed_stands.i after) ≡ Some leg
        → leg.venue < length old.resolved.items
    known_now other leg e =
        let at = changed_stands in
        let known = h.known in
        elim (cases_Bool (is_same_leg id other)) [
          | inl this ↦
              (let path = is_same_leg-true id other this in
              let here : (let k : LegIdParts = record { sweep = suc at.i; place = suc at.j } in k) ≡ other =
              (λ n. let s = sym at.sweep in let p = sym at.place in record { sweep = s n; place = p n }) ∙ path in
              let is_now = subst (λ k. kept_leg k (set old.sweeps.items at.i after) ≡ Some now) here
              (put-this old.sweeps.items at.i at.j at.legs after was now at.sweep_is at.leg_is after_is) in
              let same : now ≡ leg = cc in
              let venue = ap (λ l. l.venue) same in
              omega (arith, venue, changed_venue, changed_there))
          | inr differs ↦
              known other leg (sym (put-other old.sweeps.items at.i at.j at.legs after was now at.sweep_is at.leg_is
              after_is other.sweep other.place (sym (same_leg other) ∙ differs)) ∙ e)
        ]

    due_now : sum_over legs_due (set old.sweeps.items changed_stands.i after) ≡ old.due - (legs_due was - legs_due now)
    due_now =
        let sum = sum_now legs_due in
        let due = h.due in
        let less = changed_due in
        omega (arith, sum, due, less)

    pub kept_changed : (new : Ledger)
        → new.resolved.items ≡ set old.resolved.items was.venue
        (get_or old.resolved.items was.venue 0 + (was.parts.still_open - now.parts.still_open))
        → new.sweeps.items ≡ set old.sweeps.items changed_stands.i after → new.shares ≡ old.shares
        → new.due ≡ old.due - (legs_due was - legs_due now) → new.history.items ≡ old.history.items ++ entry ∷ []
        → vec_len new.history + new.due ≤ vec_capacity new.history → IsKept new
    kept_changed new resolved_is sweeps_is shares_is due_is history_is room =
        let many : length new.resolved.items ≡ length old.resolved.items = ap length resolved_is
        ∙ length-set old.resolved.items was.venue _ in
        let seen_is : ledger_seen new ≡ written entry
        (ledger_seen old) = λ n. record { venues = many n; entries = history_is n } in
        let old_shares = h.shares in
        let all = all_now in
        let few = h.few in
        let count = h.sweeps in
        let short = short_now in
        let known = known_now in
        let legs = legs_now in
        let resolved = h.resolved in
        record {
          replays = (λ n. replay (new_book (many n)) (history_is n)) ∙ (changed_replays ∙ sym seen_is);
          sweeps = ap length sweeps_is
              ∙ (length-set old.sweeps.items changed_stands.i after
              ∙ (count ∙ (ap length (sym changed_opened) ∙ ap (λ l. length (opened l)) (sym history_is))));
          legs = λ other.
              ap (kept_leg other) sweeps_is
              ∙ (legs other
              ∙ ((λ n. option_map (booked_leg (sym seen_is n) other) (order_of other (sym history_is n)))));
          short = λ number sweep e. short number sweep (ap (numbered number) (sym sweeps_is) ∙ e);
          known = λ other leg e.
              (let there = known other leg (ap (kept_leg other) (sym sweeps_is) ∙ e) in omega (arith, there, many));
          resolved = λ venue there.
              (let inside : venue < length old.resolved.items = omega (arith, there, many) in
              let more = resolved_now venue in
              let before = resolved venue inside in
              let sum = ap (sum_over (resolved_at venue)) sweeps_is in
              elim (cases_eq venue was.venue) [
                | inl same ↦
                    (let test : (was.venue == venue) ≡ true = eq-eqb was.venue venue (sym same) in
                    let gain : (if was.venue == venue then was.parts.still_open - now.parts.still_open else 0) ≡
                    was.parts.still_open - now.parts.still_open = rw test refl in
                    let here = ap (λ l. get_or l venue 0) resolved_is in
                    let set_here : get_or
                    (set old.resolved.items was.venue
                    (get_or old.resolved.items was.venue 0 + (was.parts.still_open - now.parts.still_open))) venue
                    0 ≡ get_or old.resolved.items was.venue 0 +
                    (was.parts.still_open - now.parts.still_open) =
                    ap (λ v. get_or (set old.resolved.items was.venue
                    (get_or old.resolved.items was.venue 0 + (was.parts.still_open - now.parts.still_open))) v 0)
                    same ∙ get_or-set_same old.resolved.items was.venue
                    (get_or old.resolved.items was.venue 0 + (was.parts.still_open - now.parts.still_open)) 0
                    changed_there in
                    let before_here = ap (λ v. get_or old.resolved.items v 0) same in
                    omega (arith, more, before, sum, gain, here, set_here, before_here))
                | inr differs ↦
                    (let test : (was.venue == venue) ≡ false = ne_eqb was.venue venue (λ e. differs (sym e)) in
                    let gain : (if was.venue == venue then was.parts.still_open - now.parts.still_open else 0) ≡ 0 =
                    rw test refl in
                    let here = ap (λ l. get_or l venue 0) resolved_is in
                    let kept = get_or-set_other old.resolved.items was.venue venue
                    (get_or old.resolved.items was.venue 0 + (was.parts.still_open - now.parts.still_open)) 0
                    differs in
                    omega (arith, more, before, sum, gain, here, kept))
              ]);
          shares = shares_is ∙ (old_shares
              ∙ (ap (sum_by sweep_shares) (sym changed_opened)
              ∙ ap (λ l. sum_by sweep_shares (opened l)) (sym history_is)));
          all = ap (sum_over (λ leg. leg_shares leg.parts)) sweeps_is ∙ (all ∙ sym shares_is);
          few = omega (arith, shares_is, few);
          due = due_is ∙ (sym due_now ∙ ap (sum_over legs_due) (sym sweeps_is));
          room = room;
        }
