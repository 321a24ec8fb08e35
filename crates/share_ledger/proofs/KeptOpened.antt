-- What the ledger keeps, once one more sweep is opened.
use Rattle.std.proofs.Common.{◌≡◌, ℕ, zero, suc, ◌+◌, ◌<◌, ◌≤◌, inl, inr, true, false, List, [], ◌∷◌, ◌++◌, length, map, Option, Some, None, Ok, Err, refl, ap, sym, ◌∙◌, arith, if◌then◌else◌}
use Rattle.std.specs.Prelude.{◌==◌, ◌&&◌, slice_get, option_map, option_and_then, sum_by, get_or, nat_le, nat_lt, vec_len, vec_capacity}
use Rattle.std.specs.List.{list_all}
use Rattle.std.specs.Global.{Vec}
use Rattle.std.proofs.lemmas.Bool.{cases_Bool, cases_eq, cases_lt, and_parts, eq-eqb, leb-true, ltb-true}
use Rattle.std.proofs.lemmas.List.{length-map, length_push}
use Rattle.std.proofs.lemmas.List.Sums.{sum_by-cons, sum_by_push}
use Rattle.std.proofs.lemmas.Option.{slice_get-map, slice_get_past}
use Rattle.leg.specs.LegId.{LegIdParts}
use Rattle.leg.specs.Numbered.{numbered}
use Rattle.leg.specs.Split.{all_open, leg_shares}
use Rattle.leg.specs.declared.sweep.Routed.{Routed}
use Rattle.leg.specs.declared.sweep.Sweep.{Sweep}
use Rattle.share_ledger.specs.declared.book_entry.BookEntry.TheVariants.{Opened}
use Rattle.share_ledger.specs.declared.book_fault.BookFault.TheVariants.{NotNext, Unfit}
use Rattle.share_ledger.specs.declared.ledger.Ledger.{Ledger}
use Rattle.share_ledger.specs.Entries.{sweep_shares, opened, order_of, is_withdrawn, notes_on}
use Rattle.share_ledger.specs.Shares.{move_of, parts_of}
use Rattle.share_ledger.specs.Book.{BookParts, BookedLeg, BookAnswer, new_book, written, leg_parts, opened_shares, is_fit, next_sweep, again, replay}
use Rattle.share_ledger.specs.Kept.{ledger_seen, kept_leg, booked_leg, opened_leg, sum_over, legs_due, resolved_at, IsKept}
use Rattle.share_ledger.proofs.OneMore.{opened-append, is_withdrawn-opened, notes_on-opened}
use Rattle.share_ledger.proofs.Sound.{IsSound}
use Rattle.share_ledger.proofs.Steps.{same_split}
use Rattle.share_ledger.proofs.Outcomes.{replayed-again, same_parts}
use Rattle.share_ledger.proofs.KeptLegs.{push-below, push-at}
use Rattle.share_ledger.proofs.KeptChanged.{sound_kept}

open_now : (book : BookParts) (legs : List Routed) → is_fit book legs ≡ true
    → again book (Opened (record { legs = legs })) ≡ written (Opened (record { legs = legs })) book
open_now book legs fit =
    let next : (next_sweep book == next_sweep book) ≡ true = eq-eqb (next_sweep book) (next_sweep book) refl in
    ap (λ b. (let r : BookAnswer = if b
    then (if is_fit book legs then (Ok tt, written (Opened (record { legs = legs })) book) else (Err Unfit, book))
    else (Err NotNext, book) in r.1)) next
    ∙ ap (λ b. (let r : BookAnswer = if b then (Ok tt, written (Opened (record { legs = legs })) book)
    else (Err Unfit, book) in r.1)) fit

-- the parts of a leg that wasn't opened are all open
pub parts_new : (book : BookParts) → IsSound book → (id : LegIdParts) (shares : ℕ) → order_of id book.entries ≡ None
    → leg_parts id shares book ≡ all_open shares
parts_new book sound id shares none =
    let untouched = sound.untouched id none in
    let empty : leg_parts id shares book ≡ parts_of shares false [] =
    ap (λ b. parts_of shares b (map move_of (notes_on id book.entries))) untouched.0
    ∙ ap (λ ns. parts_of shares false (map move_of ns)) untouched.1 in
    empty ∙ same_split (parts_of shares false []) (all_open shares) refl refl refl refl (omega arith)

-- a new sweep changes no leg's parts
parts_same : (book : BookParts) (sweep : Sweep) (id : LegIdParts) (shares : ℕ)
    → leg_parts id shares (written (Opened sweep) book) ≡ leg_parts id shares book
parts_same book sweep id shares =
    same_parts shares (is_withdrawn id book.entries) _ (notes_on id book.entries) _
    (is_withdrawn-opened id book.entries sweep) (notes_on-opened id book.entries sweep)

booked_same : (book : BookParts) (sweep : Sweep) (id : LegIdParts) (order : Option Routed)
    → option_map (booked_leg book id) order ≡ option_map (booked_leg (written (Opened sweep) book) id) order
booked_same book sweep id None = refl
booked_same book sweep id (Some routed) =
    let parts = sym (parts_same book sweep id routed.terms.shares) in λ n. Some
    (record { venue = routed.venue; parts = parts n })

booked_new : (book : BookParts) (sweep : Sweep) → IsSound book → (id : LegIdParts) → order_of id book.entries ≡ None
    → (order : Option Routed)
    → option_map opened_leg order ≡ option_map (booked_leg (written (Opened sweep) book) id) order
booked_new book sweep sound id none None = refl
booked_new book sweep sound id none (Some routed) =
    let parts = sym (parts_same book sweep id routed.terms.shares ∙ parts_new book sound id routed.terms.shares none) in
    λ n. Some (record { venue = routed.venue; parts = parts n })

-- what the sums gain by legs that are all open
gains_none : (venue : ℕ) (legs : List Routed) → sum_by (resolved_at venue) (map opened_leg legs) ≡ 0
gains_none venue [] = refl
gains_none venue (routed ∷ legs) =
    let rest = gains_none venue legs in
    let more = sum_by-cons (resolved_at venue) (opened_leg routed) (map opened_leg legs) in
    elim (cases_Bool (routed.venue == venue)) [
      | inl this ↦ (let one : resolved_at venue (opened_leg routed) ≡ 0 = rw this refl in omega
          (arith, rest, more, one))
      | inr other ↦ (let one : resolved_at venue (opened_leg routed) ≡ 0 = rw other refl in omega
          (arith, rest, more, one))
    ]

gains_all : (legs : List Routed) → sum_by (λ leg. leg_shares leg.parts) (map opened_leg legs) ≡ sweep_shares legs
gains_all [] = refl
gains_all (routed ∷ legs) =
    omega (
      arith,
      gains_all legs,
      sum_by-cons (λ leg. leg_shares leg.parts) (opened_leg routed)
          (map opened_leg legs),
      sum_by-cons (λ r. r.terms.shares) routed legs,
    )

gains_due : (legs : List Routed) → sum_by legs_due (map opened_leg legs) ≡ length legs
gains_due [] = refl
gains_due (routed ∷ legs) =
    let whole : (routed.terms.shares == leg_shares (all_open routed.terms.shares)) ≡ true = eq-eqb routed.terms.shares
    (leg_shares (all_open routed.terms.shares)) (omega arith) in
    let one : legs_due (opened_leg routed) ≡ 1 = rw whole refl in
    omega (arith, gains_due legs, sum_by-cons legs_due (opened_leg routed) (map opened_leg legs), one)

known_in : (venues : ℕ) (legs : List Routed) (m : ℕ) (leg : BookedLeg)
    → list_all (λ routed. nat_lt routed.venue venues) legs ≡ true → slice_get (map opened_leg legs) m ≡ Some leg
    → leg.venue < venues
known_in venues [] m leg all e = cc
known_in venues (routed ∷ legs) zero leg all e =
    let both = and_parts (nat_lt routed.venue venues) (list_all (λ r. nat_lt r.venue venues) legs) all in
    let same : opened_leg routed ≡ leg = cc in
    let here = ltb-true routed.venue venues both.0 in
    let venue = ap (λ l. l.venue) same in
    omega (arith, here, venue)
known_in venues (routed ∷ legs) (suc m) leg all e =
    let both = and_parts (nat_lt routed.venue venues) (list_all (λ r. nat_lt r.venue venues) legs) all in
    known_in venues legs m leg both.1 e

module _ (old : Ledger) (legs : List Routed) (added : Vec BookedLeg) (h : IsKept old)
    (fit : is_fit (ledger_seen old) legs ≡ true) (added_is : added.items ≡ map opened_leg legs) where
  -- what a sweep that is fit is known by
  fit_parts : (nat_le 1 (length legs) ≡ true) × (nat_le (length legs) 32 ≡ true)
      × (list_all (λ routed. nat_lt routed.venue (length old.resolved.items)) legs ≡ true)
      × (nat_le (opened_shares (ledger_seen old) + sweep_shares legs) 1000000000000000000 ≡ true)
  fit_parts =
      let third = and_parts
      (nat_le 1 (length legs) && nat_le (length legs) 32 && list_all
      (λ routed. nat_lt routed.venue (length old.resolved.items)) legs)
      (nat_le (opened_shares (ledger_seen old) + sweep_shares legs) 1000000000000000000) fit in
      let second = and_parts (nat_le 1 (length legs) && nat_le (length legs) 32)
      (list_all (λ routed. nat_lt routed.venue (length old.resolved.items)) legs) third.0 in
      let first = and_parts (nat_le 1 (length legs)) (nat_le (length legs) 32) second.0 in
      (first.0, first.1, second.1, third.1)

  entries_now : opened (old.history.items ++ Opened (record { legs = legs }) ∷ []) ≡ opened old.history.items ++ legs
      ∷ []
  entries_now = opened-append old.history.items (Opened (record { legs = legs }) ∷ [])

  pub opened_replays : replay (new_book (length old.resolved.items))
      (old.history.items ++ Opened (record { legs = legs }) ∷ []) ≡ written (Opened (record { legs = legs }))
      (ledger_seen old)
  opened_replays =
      let writes = open_now (ledger_seen old) legs fit in
      ap (λ b. replay (new_book (length old.resolved.items)) b.entries) (sym writes)
      ∙ (replayed-again (length old.resolved.items) (ledger_seen old) (Opened (record { legs = legs })) h.replays
      ∙ writes)

  numbered-map : (place : ℕ) → numbered place (map opened_leg legs) ≡ option_map opened_leg (numbered place legs)
  numbered-map zero = refl
  numbered-map (suc m) = slice_get-map opened_leg legs m

  legs_at : (n place : ℕ)
      → kept_leg (record { sweep = suc n; place = place }) (old.sweeps.items ++ added ∷ []) ≡ option_map
      (booked_leg (written (Opened (record { legs = legs })) (ledger_seen old))
      (record { sweep = suc n; place = place }))
      (order_of (record { sweep = suc n; place = place }) (old.history.items ++ Opened (record { legs = legs }) ∷ []))
  legs_at n place =
      let id : LegIdParts = record { sweep = suc n; place = place } in
      let sweep : Sweep = record { legs = legs } in
      let before = h.legs in
      let count = h.sweeps in
      let after = written (Opened sweep) (ledger_seen old) in
      let goes = ap (λ sweeps. option_map (booked_leg after id) (option_and_then (numbered place) (slice_get sweeps n)))
      entries_now in
      elim (cases_lt n (length old.sweeps.items)) [
        | inl there ↦
            (let inside : n < length (opened old.history.items) = omega (arith, there, count) in
            ap (option_and_then (λ l. numbered place l.items)) (push-below old.sweeps.items added n there)
            ∙ (before id
            ∙ (booked_same (ledger_seen old) sweep id (order_of id old.history.items)
            ∙ (ap (λ s. option_map (booked_leg after id) (option_and_then (numbered place) s))
            (sym (push-below (opened old.history.items) legs n inside))
            ∙ sym goes))))
        | inr past ↦
            elim (cases_eq n (length old.sweeps.items)) [
              | inl last ↦
                  (let last_opened : n ≡ length (opened old.history.items) = last ∙ count in
                  let here : slice_get (old.sweeps.items ++ added ∷ []) n ≡ Some
                  added = ap (slice_get (old.sweeps.items ++ added ∷ [])) last ∙ push-at old.sweeps.items added in
                  let there : slice_get
                  (opened old.history.items ++ legs ∷ []) n ≡ Some
                  legs = ap (slice_get (opened old.history.items ++ legs ∷ [])) last_opened
                  ∙ push-at (opened old.history.items) legs in
                  let none : order_of id old.history.items ≡ None = ap (option_and_then (numbered place))
                  (slice_get_past (opened old.history.items) n (omega (arith, last_opened))) in
                  ap (option_and_then (λ l. numbered place l.items)) here
                  ∙ (ap (numbered place) added_is
                  ∙ (numbered-map place
                  ∙ (booked_new (ledger_seen old) sweep (sound_kept old h) id none (numbered place legs)
                  ∙ (ap (λ s. option_map (booked_leg after id) (option_and_then (numbered place) s)) (sym there)
                  ∙ sym goes)))))
              | inr beyond ↦
                  (let none : slice_get (old.sweeps.items ++ added ∷ []) n ≡ None = slice_get_past
                  (old.sweeps.items ++ added ∷ []) n
                  (omega (arith, past, beyond, length_push old.sweeps.items added)) in
                  let none_opened : slice_get (opened old.history.items ++ legs ∷ []) n ≡ None = slice_get_past
                  (opened old.history.items ++ legs ∷ []) n
                  (omega (arith, past, beyond, count, length_push (opened old.history.items) legs)) in
                  ap (option_and_then (λ l. numbered place l.items)) none
                  ∙ (ap (λ s. option_map (booked_leg after id) (option_and_then (numbered place) s)) (sym none_opened)
                  ∙ sym goes))
            ]
      ]

  legs_by : (sweep place : ℕ)
      → (let id : LegIdParts = record { sweep = sweep; place = place } in kept_leg id
      (old.sweeps.items ++ added ∷ []) ≡ option_map
      (booked_leg (written (Opened (record { legs = legs })) (ledger_seen old)) id)
      (order_of id (old.history.items ++ Opened (record { legs = legs }) ∷ [])))
  legs_by zero place = refl
  legs_by (suc n) place = legs_at n place

  legs_opened : (id : LegIdParts)
      → kept_leg id (old.sweeps.items ++ added ∷ []) ≡ option_map
      (booked_leg (written (Opened (record { legs = legs })) (ledger_seen old)) id)
      (order_of id (old.history.items ++ Opened (record { legs = legs }) ∷ []))
  legs_opened id = legs_by id.sweep id.place

  in_new : (place : ℕ) (leg : BookedLeg) → numbered place added.items ≡ Some leg → leg.venue < length old.resolved.items
  in_new zero leg e = cc
  in_new (suc m) leg e =
      let parts = fit_parts in
      known_in (length old.resolved.items) legs m leg parts.2 (ap (λ l. slice_get l m) (sym added_is) ∙ e)

  known_by : (sweep place : ℕ) (leg : BookedLeg)
      → kept_leg (record { sweep = sweep; place = place }) (old.sweeps.items ++ added ∷ []) ≡ Some leg
      → leg.venue < length old.resolved.items
  known_by zero place leg e = cc
  known_by (suc n) place leg e =
      let known = h.known in
      elim (cases_lt n (length old.sweeps.items)) [
        | inl there ↦
            known (record { sweep = suc n; place = place }) leg
            (sym (ap (option_and_then (λ l. numbered place l.items)) (push-below old.sweeps.items added n there))
            ∙ e)
        | inr past ↦
            elim (cases_eq n (length old.sweeps.items)) [
              | inl last ↦
                  (let here : slice_get
                  (old.sweeps.items ++ added ∷ []) n ≡ Some added = ap (slice_get (old.sweeps.items ++ added ∷ []))
                  last ∙ push-at old.sweeps.items added in
                  in_new place leg (sym (ap (option_and_then (λ l. numbered place l.items)) here) ∙ e))
              | inr beyond ↦
                  (let none : slice_get (old.sweeps.items ++ added ∷ []) n ≡ None = slice_get_past
                  (old.sweeps.items ++ added ∷ []) n
                  (omega (arith, past, beyond, length_push old.sweeps.items added)) in
                  let nothing = sym (ap (option_and_then (λ l. numbered place l.items)) none) ∙ e in cc)
            ]
      ]

  short_by : (number : ℕ) (sweep : Vec BookedLeg) → numbered number (old.sweeps.items ++ added ∷ []) ≡ Some sweep
      → length sweep.items ≤ 32
  short_by zero sweep e = cc
  short_by (suc n) sweep e =
      let short = h.short in
      elim (cases_lt n (length old.sweeps.items)) [
        | inl there ↦ short (suc n) sweep (sym (push-below old.sweeps.items added n there) ∙ e)
        | inr past ↦
            elim (cases_eq n (length old.sweeps.items)) [
              | inl last ↦
                  (let here : slice_get
                  (old.sweeps.items ++ added ∷ []) n ≡ Some added = ap (slice_get (old.sweeps.items ++ added ∷ []))
                  last ∙ push-at old.sweeps.items added in
                  let same : added ≡ sweep = cc in
                  let long = ap (λ l. length l.items) (sym same) ∙ (ap length added_is ∙ length-map legs opened_leg) in
                  let parts = fit_parts in
                  let few = leb-true (length legs) 32 parts.1 in
                  omega (arith, long, few))
              | inr beyond ↦
                  (let none : slice_get (old.sweeps.items ++ added ∷ []) n ≡ None = slice_get_past
                  (old.sweeps.items ++ added ∷ []) n
                  (omega (arith, past, beyond, length_push old.sweeps.items added)) in cc)
            ]
      ]

  sum_opened : (f : BookedLeg → ℕ)
      → sum_over f (old.sweeps.items ++ added ∷ []) ≡ sum_over f old.sweeps.items + sum_by f (map opened_leg legs)
  sum_opened f =
      let more = sum_by_push (λ l. sum_by f l.items) old.sweeps.items added in
      let same = ap (sum_by f) added_is in
      omega (arith, more, same)

  pub kept_opened : (new : Ledger) → new.resolved.items ≡ old.resolved.items
      → new.sweeps.items ≡ old.sweeps.items ++ added ∷ [] → new.shares ≡ old.shares + sweep_shares legs
      → new.due ≡ old.due + length legs → new.history.items ≡ old.history.items ++ Opened (record { legs = legs }) ∷ []
      → vec_len new.history + new.due ≤ vec_capacity new.history → IsKept new
  kept_opened new resolved_is sweeps_is shares_is due_is history_is room =
      let many : length new.resolved.items ≡ length old.resolved.items = ap length resolved_is in
      let seen_is : ledger_seen new ≡ written (Opened (record { legs = legs }))
      (ledger_seen old) = λ n. record { venues = many n; entries = history_is n } in
      let count = h.sweeps in
      let resolved = h.resolved in
      let shares = h.shares in
      let all = h.all in
      let due = h.due in
      let parts = fit_parts in
      let few = leb-true (opened_shares (ledger_seen old) + sweep_shares legs) 1000000000000000000 parts.3 in
      record {
        replays = (λ n. replay (new_book (many n)) (history_is n)) ∙ (opened_replays ∙ sym seen_is);
        sweeps =
            ap length sweeps_is
            ∙ (length_push old.sweeps.items added
            ∙ (ap (λ n. n + 1) count
            ∙ (sym (length_push (opened old.history.items) legs)
            ∙ (ap length (sym entries_now) ∙ ap (λ l. length (opened l)) (sym history_is)))));
        legs = λ id.
            ap (kept_leg id) sweeps_is
            ∙ (legs_opened id
            ∙ ((λ n. option_map (booked_leg (sym seen_is n) id) (order_of id (sym history_is n)))));
        short = λ number sweep e. short_by number sweep (ap (numbered number) (sym sweeps_is) ∙ e);
        known = λ id leg e. (let there = known_by id.sweep id.place leg (ap (kept_leg id) (sym sweeps_is) ∙ e) in omega
            (arith, there, many));
        resolved = λ venue there.
            (let before = resolved venue (omega (arith, there, many)) in
            let same = ap (λ l. get_or l venue 0) resolved_is in
            let sum = ap (sum_over (resolved_at venue)) sweeps_is in
            omega (arith, before, same, sum, sum_opened (resolved_at venue), gains_none venue legs));
        shares =
            shares_is
            ∙ (ap (λ n. n + sweep_shares legs) shares
            ∙ (sym (sum_by_push sweep_shares (opened old.history.items) legs)
            ∙ (ap (sum_by sweep_shares) (sym entries_now)
            ∙ ap (λ l. sum_by sweep_shares (opened l)) (sym history_is))));
        all = (let sum = ap (sum_over (λ leg. leg_shares leg.parts)) sweeps_is in omega
            (arith, sum, sum_opened (λ leg. leg_shares leg.parts), gains_all legs, all, shares_is));
        few = omega (arith, few, shares, shares_is);
        due = (let sum = ap (sum_over legs_due) sweeps_is in omega
            (arith, sum, sum_opened legs_due, gains_due legs, due, due_is));
        room = room;
      }
