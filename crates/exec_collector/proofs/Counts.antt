-- What each call makes of a book that its history leads to, and of what it has resolved.
use Rattle.std.proofs.Common.{◌≡◌, ℕ, zero, suc, ◌+◌, ◌-◌, ◌≤◌, Bool, true, false, List, [], ◌∷◌, map, Option, Some, None, Result, Ok, Err, IsOk, inl, inr, refl, ap, sym, ◌∙◌, subst, arith, if◌then◌else◌}
use Rattle.std.specs.Prelude.{◌==◌, nat_le, MatchResult}
use Rattle.std.proofs.lemmas.Bool.{eqb-true, leb-true}
use Rattle.leg.specs.Answering.{Answers}
use Rattle.leg.specs.LegId.{LegIdParts}
use Rattle.leg.specs.Split.{SplitParts, SplitAnswer, leg_shares, split_withdraw}
use Rattle.leg.specs.Venue.{venue_of}
use Rattle.leg.specs.declared.fault.LegFault.{LegFault}
use Rattle.leg.specs.declared.fault.LegFault.TheVariants.{Overfill, NotFilled, AlreadyMoved, BadVenue}
use Rattle.leg.specs.declared.sweep.Routed.{Routed}
use Rattle.leg.specs.declared.sweep.Sweep.{Sweep}
use Rattle.dialect.specs.declared.note.Note.{Note}
use Rattle.dialect.specs.declared.note.Note.TheVariants as note
use Rattle.share_ledger.specs.declared.applied.Applied.{Applied}
use Rattle.share_ledger.specs.declared.applied.Applied.TheVariants as applied
use Rattle.share_ledger.specs.declared.book_entry.BookEntry.TheVariants.{Opened, Withdrawn, Moved}
use Rattle.share_ledger.specs.declared.book_fault.BookFault.{BookFault}
use Rattle.share_ledger.specs.declared.book_fault.BookFault.TheVariants as fault
use Rattle.share_ledger.specs.Entries.{opened, order_of, is_same_leg, is_about, is_booked, leg_of_note}
use Rattle.share_ledger.specs.Shares.{Move, Trades, Busts, Ends, Tells, move_of}
use Rattle.share_ledger.specs.Steps.{traded_under, split_step}
use Rattle.share_ledger.specs.Book.{BookParts, BookAnswer, new_book, written, moves_on, leg_parts, resolved_of, venue_resolved, answer_to, after_note, apply, next_sweep, is_fit, open_sweep, withdraw, withdraw_order, again, replay}
use Rattle.share_ledger.proofs.OneMore.{opened-moved, opened-withdrawn}
use Rattle.share_ledger.proofs.Outcomes.{open_outcome, others-withdraw, others-apply, replayed-again}
use Rattle.share_ledger.proofs.Sound.{let_in}
use Rattle.share_ledger.proofs.LegSteps.{steps-apply, steps-withdraw}
use Rattle.share_ledger.proofs.Adding.{leg_adds_up}
use Rattle.exec_collector.specs.Resolved.{sum_below, resolved, Replays, OnlyOpens, Gains, GainsBy, GainsLeg}
use Rattle.exec_collector.specs.Booked.{withdraw_of}
use Rattle.exec_collector.proofs.Asking.{asked_cases}
use Rattle.exec_collector.proofs.Bounded.{bounded_book, sound_book, few_below}
use Rattle.exec_collector.proofs.Resolving.{this_venue, all_venues, opened_all}

-- what a step makes of a leg's resolved shares
filled_more : (b : Bool) (s : SplitParts) (n : ℕ) (t : SplitParts)
    → (let r : SplitAnswer = if b then (Ok tt, record s { filled = s.filled + n; still_open = s.still_open - n })
    else (Err Overfill, s) in r ≡ (Ok tt, t)) → resolved_of t ≡ resolved_of s + n
filled_more true s n t e = let f = ap (λ r. resolved_of r.1) e in omega (arith, f)
filled_more false s n t e = let never = ap (λ r. r.0) e in cc

busted_same : (s : SplitParts) (n : ℕ) (t : SplitParts) (b : Bool) → nat_le n s.filled ≡ b
    → (let r : SplitAnswer = if b then (Ok tt, record s { filled = s.filled - n; busted = s.busted + n })
    else (Err NotFilled, s) in r ≡ (Ok tt, t)) → resolved_of t ≡ resolved_of s
busted_same s n t true h e = let f = ap (λ r. resolved_of r.1) e in let low = leb-true n s.filled h in omega
    (arith, f, low)
busted_same s n t false h e = let never = ap (λ r. r.0) e in cc

stepped : (moves : List Move) (move : Move) (s t : SplitParts) → split_step moves move s ≡ (Ok tt, t)
    → Gains move (resolved_of s) (resolved_of t)
stepped moves (Trades trade) s t e = filled_more (nat_le trade.shares s.still_open) s trade.shares t e
stepped moves (Busts exec) s t e = busted_same s (traded_under exec moves) t
    (nat_le (traded_under exec moves) s.filled) refl e
stepped moves Ends s t e = let f = ap (λ r. resolved_of r.1) e in omega (arith, f)
stepped moves Tells s t e = let f = ap (λ r. resolved_of r.1) e in omega (arith, f)

gains_low : (move : Move) (a b : ℕ) → Gains move a b → a ≤ b
gains_low (Trades trade) a b g = omega (arith, g)
gains_low (Busts exec) a b g = omega (arith, g)
gains_low Ends a b g = g
gains_low Tells a b g = omega (arith, g)

gains_at : (move : Move) (a b before after : ℕ) → Gains move a b → after + a ≡ before + b → Gains move before after
gains_at (Trades trade) a b before after g e = omega (arith, g, e)
gains_at (Busts exec) a b before after g e = omega (arith, g, e)
gains_at Ends a b before after g e = omega (arith, g, e)
gains_at Tells a b before after g e = omega (arith, g, e)

-- a note that moves changes what one leg has resolved, from `was` to `now`
pub record MovesLeg (book : BookParts) (venue : ℕ) (note : Note) : Type 0 where
  pub was : ℕ
  pub now : ℕ
  pub gains : Gains (move_of note) was now
  pub here : venue_resolved (written (Moved venue note) book) venue + was ≡ venue_resolved book venue + now
  pub all : resolved (written (Moved venue note) book) + was ≡ resolved book + now

module _ (book : BookParts) (replays : Replays book) (venue : ℕ) (note : Note)
    (moved : answer_to book venue note ≡ applied.Moved) where
  after_is : (apply book venue note).1 ≡ written (Moved venue note) book
  after_is = ap (after_note book venue note) moved

  of_leg : (id : LegIdParts) (order : Routed) → leg_of_note note ≡ Some id
      → ((k : LegIdParts) → is_about k note ≡ is_same_leg id k) → order_of id book.entries ≡ Some order
      → (order.venue == venue) ≡ true → MovesLeg book venue note
  of_leg id order leg about found at_venue =
      let after = written (Moved venue note) book in
      let others : (other : LegIdParts) (shares : ℕ) → is_same_leg id other ≡ false
      → leg_parts other shares after ≡ leg_parts other shares book = λ other shares differs.
      ap (leg_parts other shares) (sym after_is) ∙ others-apply book venue note other shares (about other ∙ differs) in
      let same = opened-moved book.entries venue note in
      let its : order.venue ≡ venue = eqb-true order.venue venue at_venue in
      let steps = subst (λ (b : BookParts). order_of id b.entries ≡ Some order
      → (apply b venue note).0 ≡ Ok applied.Moved
      → split_step (moves_on id b) (move_of note) (leg_parts id order.terms.shares b)
      ≡ (Ok tt, leg_parts id order.terms.shares (apply b venue note).1)) replays
      (steps-apply book.venues book.entries venue note id order leg) found (ap (λ a. Ok a) moved) in
      let step = steps ∙ ap (λ b. (Ok tt, leg_parts id order.terms.shares b)) after_is in
      let known = (bounded_book book replays).known id order found in
      record {
        was = resolved_of (leg_parts id order.terms.shares book);
        now = resolved_of (leg_parts id order.terms.shares after);
        gains = stepped (moves_on id book) (move_of note) (leg_parts id order.terms.shares book)
            (leg_parts id order.terms.shares after) step;
        here = subst (λ v. venue_resolved after v + resolved_of (leg_parts id order.terms.shares book)
            ≡ venue_resolved book v + resolved_of (leg_parts id order.terms.shares after)) its
            (this_venue book after id order found same others);
        all = all_venues book after id order found same others book.venues known;
      }

moves_leg : (book : BookParts) → Replays book → (venue : ℕ) (note : Note) → answer_to book venue note ≡ applied.Moved
    → MovesLeg book venue note
moves_leg book replays venue (note.Report report) moved =
    let it = let_in book venue (is_booked venue report.exec book.entries) (move_of (note.Report report)) report.id
    (order_of report.id book.entries) refl moved in
    of_leg book replays venue (note.Report report) moved report.id it.order refl (λ k. refl) it.found it.of_venue
moves_leg book replays venue (note.Refused id) moved =
    let it = let_in book venue false (move_of (note.Refused id)) id (order_of id book.entries) refl moved in
    of_leg book replays venue (note.Refused id) moved id it.order refl (λ k. refl) it.found it.of_venue
moves_leg book replays venue (note.Unread fault) moved = cc

-- what a note makes of a book
pub record IsCounted (book after : BookParts) (venue : ℕ) (note : Note) (answer : Applied) : Type 0 where
  pub venues : after.venues ≡ book.venues
  pub replays : Replays after
  pub rises : venue_resolved book venue ≤ venue_resolved after venue
  pub counts : resolved after + venue_resolved book venue ≡ resolved book + venue_resolved after venue
  pub few : resolved after ≤ 1000000000000000000
  pub gains : (before now : ℕ) → now + resolved book ≡ before + resolved after → GainsBy note answer before now

unmoved : (book : BookParts) → Replays book → (venue : ℕ) (note : Note) (answer : Applied)
    → ((before now : ℕ) → now ≡ before → GainsBy note answer before now) → IsCounted book book venue note answer
unmoved book replays venue note answer none =
    record {
      venues = refl;
      replays = replays;
      rises = omega arith;
      counts = refl;
      few = few_below book replays book.venues;
      gains = λ before now e. none before now (omega (arith, e));
    }

counted_by : (book : BookParts) → Replays book → (venue : ℕ) (note : Note) (answer : Applied)
    → answer_to book venue note ≡ answer → IsCounted book (after_note book venue note answer) venue note answer
counted_by book replays venue note applied.Moved is =
    let it = moves_leg book replays venue note is in
    let gains = it.gains in
    let here = it.here in
    let all = it.all in
    let low = gains_low (move_of note) it.was it.now gains in
    let kept : Replays (written (Moved venue note) book) = subst (λ b. replay (new_book book.venues) b.entries ≡ b)
    (ap (after_note book venue note) is) (replayed-again book.venues book (Moved venue note) replays) in
    record {
      venues = refl;
      replays = kept;
      rises = omega (arith, here, low);
      counts = omega (arith, here, all, low);
      few = few_below (written (Moved venue note) book) kept book.venues;
      gains = λ before now e. gains_at (move_of note) it.was it.now before now gains (omega (arith, e, all));
    }
counted_by book replays venue note applied.Duplicate is = unmoved book replays venue note applied.Duplicate (λ b n e. e)
counted_by book replays venue note applied.Overfill is = unmoved book replays venue note applied.Overfill (λ b n e. e)
counted_by book replays venue note applied.Stray is = unmoved book replays venue note applied.Stray (λ b n e. e)

pub counted : (book : BookParts) → Replays book → (venue : ℕ) (note : Note)
    → IsCounted book (apply book venue note).1 venue note (answer_to book venue note)
counted book replays venue note = counted_by book replays venue note (answer_to book venue note) refl

-- a withdrawal
split_gain : (b : Bool) (s t : SplitParts) → (s.still_open == leg_shares s) ≡ b
    → (let r : SplitAnswer = if b then (Ok tt, record s { withdrawn = s.still_open; still_open = 0 })
    else (Err AlreadyMoved, s) in r ≡ (Ok tt, t)) → resolved_of t ≡ resolved_of s + leg_shares s
split_gain true s t h e =
    let whole = eqb-true s.still_open (leg_shares s) h in
    let f = ap (λ r. resolved_of r.1) e in
    omega (arith, whole, f)
split_gain false s t h e = let never = ap (λ r. r.0) e in cc

pub record IsWithdrawn (book after : BookParts) (id : LegIdParts) : Type 0 where
  pub venues : after.venues ≡ book.venues
  pub replays : Replays after
  pub order : Routed
  pub found : order_of id book.entries ≡ Some order
  pub counts : resolved after ≡ resolved book + order.terms.shares
  pub few : resolved after ≤ 1000000000000000000

withdrawn_of : (book : BookParts) (id : LegIdParts) (order : Option Routed) → order_of id book.entries ≡ order
    → IsOk (withdraw_order book id order).0 → (routed : Routed) × (order_of id book.entries ≡ Some routed)
withdrawn_of book id None found ok = cc
withdrawn_of book id (Some routed) found ok = (routed, found)

withdrawn_step : (b : Bool) (book : BookParts) (id : LegIdParts)
    → (let r : BookAnswer = if b then (Ok tt, written (Withdrawn id) book) else (Err fault.AlreadyMoved, book) in
    IsOk r.0 → r.1 ≡ written (Withdrawn id) book)
withdrawn_step true book id ok = refl
withdrawn_step false book id ok = cc

withdrawn_is : (book : BookParts) (id : LegIdParts) (order : Option Routed)
    → IsOk (withdraw_order book id order).0 → (withdraw_order book id order).1 ≡ written (Withdrawn id) book
withdrawn_is book id None ok = cc
withdrawn_is book id (Some routed) ok =
    withdrawn_step ((leg_parts id routed.terms.shares book).still_open == routed.terms.shares) book id ok

pub withdrawn : (book : BookParts) → Replays book → (id : LegIdParts) → IsOk (withdraw book id).0
    → IsWithdrawn book (withdraw book id).1 id
withdrawn book replays id ok =
    let it = withdrawn_of book id (order_of id book.entries) refl ok in
    let order = it.0 in
    let writes = withdrawn_is book id (order_of id book.entries) ok in
    let after = (withdraw book id).1 in
    let same : opened after.entries ≡ opened book.entries = ap (λ b. opened b.entries) writes
    ∙ opened-withdrawn book.entries id in
    let steps = subst (λ (b : BookParts). order_of id b.entries ≡ Some order → IsOk (withdraw b id).0
    → split_withdraw (leg_parts id order.terms.shares b) ≡ (Ok tt, leg_parts id order.terms.shares (withdraw b id).1))
    replays (steps-withdraw book.venues book.entries id order) it.1 ok in
    let s = leg_parts id order.terms.shares book in
    let gain = split_gain (s.still_open == leg_shares s) s (leg_parts id order.terms.shares after) refl steps in
    let adds = leg_adds_up book id order (sound_book book replays) it.1 in
    let known = (bounded_book book replays).known id order it.1 in
    let all = all_venues book after id order it.1 same (others-withdraw book id) book.venues known in
    let venues : after.venues ≡ book.venues = ap (λ b. b.venues) writes in
    let sum : resolved after ≡ sum_below (venue_resolved after) book.venues
    = ap (sum_below (venue_resolved after)) venues in
    let kept : replay (new_book book.venues) after.entries ≡ after
    = replayed-again book.venues book (Withdrawn id) replays in
    let replays_now : Replays after = ap (λ n. replay (new_book n) after.entries) venues ∙ kept in
    record {
      venues = venues;
      replays = replays_now;
      order = order;
      found = it.1;
      counts = omega (arith, all, gain, adds, sum);
      few = few_below after replays_now after.venues;
    }

-- sweeps that are opened resolve nothing
pub record IsOpened (book after : BookParts) : Type 0 where
  pub venues : after.venues ≡ book.venues
  pub replays : Replays after
  pub counts : resolved after ≡ resolved book

opened_venues : (book : BookParts) (number : ℕ) (legs : List Routed)
    → (open_sweep book number legs).1.venues ≡ book.venues
opened_venues book number legs =
    elim (open_outcome book number legs) [
      | inl writes ↦ ap (λ b. b.venues) writes
      | inr same ↦ ap (λ b. b.venues) same
    ]

pub opened_one : (book : BookParts) → Replays book → (sweep : Sweep) → IsOpened book (again book (Opened sweep))
opened_one book replays sweep =
    let after = again book (Opened sweep) in
    let venues : after.venues ≡ book.venues = opened_venues book (next_sweep book) sweep.legs in
    let kept : replay (new_book book.venues) after.entries ≡ after
    = replayed-again book.venues book (Opened sweep) replays in
    record {
      venues = venues;
      replays = ap (λ n. replay (new_book n) after.entries) venues ∙ kept;
      counts = ap (sum_below (venue_resolved after)) venues
          ∙ opened_all book (sound_book book replays) (next_sweep book) sweep.legs book.venues;
    }

opened_each : (book : BookParts) → Replays book → (sweeps : List Sweep)
    → IsOpened book (replay book (map (λ sweep. Opened sweep) sweeps))
opened_each book replays [] = record { venues = refl; replays = replays; counts = refl }
opened_each book replays (sweep ∷ sweeps) =
    let one = opened_one book replays sweep in
    let rest = opened_each (again book (Opened sweep)) one.replays sweeps in
    record { venues = rest.venues ∙ one.venues; replays = rest.replays; counts = rest.counts ∙ one.counts }

pub only_opened : (book after : BookParts) → Replays book → OnlyOpens book after → IsOpened book after
only_opened book after replays opens = subst (IsOpened book) (sym opens.opens) (opened_each book replays opens.sweeps)

-- as a call answers it
pub noted : (book after : BookParts) (venue : ℕ) (note : Note) (answer : Applied) → Replays book
    → answer ≡ answer_to book venue note → after ≡ (apply book venue note).1 → IsCounted book after venue note answer
noted book after venue note answer replays answered now =
    subst (λ b. IsCounted book b venue note answer) (sym now)
    (subst (IsCounted book (apply book venue note).1 venue note) (sym answered) (counted book replays venue note))

pub gone : (book after : BookParts) (id : LegIdParts) → Replays book
    → (let r : BookAnswer = (Ok tt, after) in r ≡ withdraw book id) → IsWithdrawn book after id
gone book after id replays e =
    let ok : IsOk (withdraw book id).0 = subst (λ (r : BookAnswer). IsOk r.0) e refl in
    subst (λ b. IsWithdrawn book b id) (sym (ap (λ (r : BookAnswer). r.1) e)) (withdrawn book replays id ok)

-- what a withdrawal makes of a book, by its answer
pub record IsAskedOf (book after : BookParts) (id : LegIdParts) (result : Result (Unit {0}) BookFault) : Type 0 where
  pub venues : after.venues ≡ book.venues
  pub replays : Replays after
  pub rises : resolved book ≤ resolved after
  pub few : resolved after ≤ 1000000000000000000
  pub gains : (before now : ℕ) → now + resolved book ≡ before + resolved after
      → MatchResult result (λ _. GainsLeg id before now) (λ why. (why ≡ fault.AlreadyMoved) × (now ≡ before))

pub asked : (book after : BookParts) (venue : ℕ) (id : LegIdParts) (result : Result (Unit {0}) BookFault) → Replays book
    → (let r : BookAnswer = (result, after) in r ≡ withdraw_of venue book id) → IsAskedOf book after id result
asked book after venue id result replays e =
    subst (λ (r : BookAnswer). IsAskedOf book r.1 id r.0) (sym e)
    (asked_cases (λ (r : BookAnswer). IsAskedOf book r.1 id r.0) venue book id
    (record {
      venues = refl;
      replays = replays;
      rises = omega arith;
      few = few_below book replays book.venues;
      gains = λ before now same. (refl, omega (arith, same));
    })
    (λ here done.
    let it = gone book (written (Withdrawn id) book) id replays (sym done) in
    let counts = it.counts in
    record {
      venues = refl;
      replays = it.replays;
      rises = omega (arith, counts);
      few = it.few;
      gains = λ before now same. record {
        book = book;
        replays = replays;
        order = it.order;
        found = it.found;
        gained = omega (arith, counts, same);
      };
    }))

venue_by : (b : Bool) (n v : ℕ) → (let r : Result ℕ LegFault = if b then Ok n else Err BadVenue in r ≡ Ok v) → v ≡ n
venue_by true n v e = cc
venue_by false n v e = cc

pub venue_is : (n v : ℕ) → venue_of n ≡ Ok v → v ≡ n
venue_is n v e = venue_by (nat_le n 15) n v e

-- a new book has resolved nothing
none_below : (venues n : ℕ) → sum_below (venue_resolved (new_book venues)) n ≡ 0
none_below venues zero = refl
none_below venues (suc n) = let rest = none_below venues n in omega (arith, rest)

pub resolved_new : (venues : ℕ) → resolved (new_book venues) ≡ 0
resolved_new venues = none_below venues venues

-- what a call that opens a sweep answers
opens_by : (is_next fits : Bool) (book after : BookParts) (number : ℕ) (sweep : Sweep)
    (answer : Result (Unit {0}) BookFault) → (number == next_sweep book) ≡ is_next
    → (let r : BookAnswer = if is_next
    then (if fits then (Ok tt, written (Opened (record { legs = sweep.legs })) book) else (Err fault.Unfit, book))
    else (Err fault.NotNext, book) in r ≡ open_sweep book number sweep.legs)
    → (let r : BookAnswer = if is_next
    then (if fits then (Ok tt, written (Opened (record { legs = sweep.legs })) book) else (Err fault.Unfit, book))
    else (Err fault.NotNext, book) in Answers fault.OutOfMemory book r answer after) → OnlyOpens book after
opens_by true true book after number sweep (Ok done) is_next is answers =
    let next = eqb-true number (next_sweep book) is_next in
    record {
      sweeps = sweep ∷ [];
      opens = answers.1 ∙ (ap (λ (r : BookAnswer). r.1) is ∙ ap (λ n. (open_sweep book n sweep.legs).1) next);
    }
opens_by true true book after number sweep (Err wanting) is_next is answers = record { sweeps = []; opens = answers.1 }
opens_by true false book after number sweep answer is_next is answers = record { sweeps = []; opens = answers.1 }
opens_by false fits book after number sweep answer is_next is answers = record { sweeps = []; opens = answers.1 }

pub opens_one : (book after : BookParts) (number : ℕ) (sweep : Sweep) (answer : Result (Unit {0}) BookFault)
    → Answers fault.OutOfMemory book (open_sweep book number sweep.legs) answer after → OnlyOpens book after
opens_one book after number sweep answer answers =
    opens_by (number == next_sweep book) (is_fit book sweep.legs) book after number sweep answer refl refl answers
