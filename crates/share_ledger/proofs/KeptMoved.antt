-- A note that moves, from what is kept of its leg.
use Rattle.std.proofs.Common.{◌≡◌, ◌≢◌, ℕ, ◌+◌, ◌-◌, ◌≤◌, Bool, true, false, List, [], ◌∷◌, ◌++◌, Some, None, Ok, Err, refl, ap, sym, ◌∙◌, subst, arith, if◌then◌else◌}
use Rattle.std.specs.Prelude.{◌==◌, option_map, nat_le, nat_lt, Result}
use Rattle.std.proofs.lemmas.Bool.{eq-eqb, lt-ltb}
use Rattle.leg.specs.Answering.{Answers}
use Rattle.leg.specs.LegId.{LegIdParts}
use Rattle.leg.specs.Split.{SplitParts, SplitAnswer, leg_shares, split_bust}
use Rattle.leg.specs.declared.fault.LegFault.TheVariants.{Overfill, NotFilled}
use Rattle.leg.specs.declared.sweep.Routed.{Routed}
use Rattle.dialect.specs.declared.note.Note.{Note}
use Rattle.dialect.specs.declared.note.Note.TheVariants as note
use Rattle.dialect.specs.declared.report.Report.{Report}
use Rattle.dialect.specs.declared.report.ReportKind.{ReportKind}
use Rattle.dialect.specs.declared.report.ReportKind.TheVariants.{New, Trade, Canceled, Rejected, Expired, Bust}
use Rattle.share_ledger.specs.declared.applied.Applied.{Applied}
use Rattle.share_ledger.specs.declared.applied.Applied.TheVariants as applied
use Rattle.share_ledger.specs.declared.book_entry.BookEntry.TheVariants.{Moved}
use Rattle.share_ledger.specs.declared.book_fault.BookFault.{BookFault}
use Rattle.share_ledger.specs.declared.book_fault.BookFault.TheVariants.{OutOfMemory}
use Rattle.share_ledger.specs.declared.reports.Reports.{Reports}
use Rattle.share_ledger.specs.Entries.{order_of, is_same_leg, is_about, is_withdrawn, is_booked, leg_of_note}
use Rattle.share_ledger.specs.Shares.{Move, Trades, Busts, Ends, Tells, move_of, move_of_kind, parts_of}
use Rattle.share_ledger.specs.Steps.{traded_under, split_step}
use Rattle.share_ledger.specs.Book.{BookParts, BookedLeg, written, moves_on, leg_parts, can_bust, move_answer, leg_answer, answer_to, after_note, apply}
use Rattle.share_ledger.specs.Reports.{report_at, shares_on, with_parts, bust_leg, moved_by}
use Rattle.share_ledger.specs.Kept.{booked_leg, standing, ChangesLeg}
use Rattle.share_ledger.proofs.ShareSums.{IsWithin}
use Rattle.share_ledger.proofs.Sound.{IsSound, let_in_bust}
use Rattle.share_ledger.proofs.Steps.{step_is}
use Rattle.share_ledger.proofs.Adding.{leg_adds_up}
use Rattle.share_ledger.proofs.Told.{IsTold}
use Rattle.share_ledger.proofs.LegSteps.{note_step}
use Rattle.share_ledger.proofs.Outcomes.{others-apply}
use Rattle.share_ledger.proofs.KeptChanged.{order_kept}

-- a split's step leaves no more open than there was
less_fill : (b : Bool) (s : SplitParts) (n : ℕ)
    → (let r : SplitAnswer = if b then (Ok tt, record s { filled = s.filled + n; still_open = s.still_open - n })
    else (Err Overfill, s) in r.1.still_open ≤ s.still_open)
less_fill true s n = omega arith
less_fill false s n = omega arith

less_bust : (b : Bool) (s : SplitParts) (n : ℕ)
    → (let r : SplitAnswer = if b then (Ok tt, record s { filled = s.filled - n; busted = s.busted + n })
    else (Err NotFilled, s) in r.1.still_open ≤ s.still_open)
less_bust true s n = omega arith
less_bust false s n = omega arith

less_step : (moves : List Move) (move : Move) (s : SplitParts) → (split_step moves move s).1.still_open ≤ s.still_open
less_step moves (Trades trade) s = less_fill (nat_le trade.shares s.still_open) s trade.shares
less_step moves (Busts exec) s = less_bust (nat_le (traded_under exec moves) s.filled) s (traded_under exec moves)
less_step moves Ends s = omega arith
less_step moves Tells s = omega arith

-- what is answered to a note that moves, and to one that doesn't
abbrev pub ApplyAnswers : BookParts → ℕ → Note → Result Applied BookFault → BookParts → Type 0
ApplyAnswers book venue note result now = Answers OutOfMemory book (apply book venue note) result now

pub answers_moved : (book : BookParts) (venue : ℕ) (note : Note) (now : BookParts)
    → answer_to book venue note ≡ applied.Moved → now ≡ written (Moved venue note) book
    → ApplyAnswers book venue note (Ok applied.Moved) now
answers_moved book venue note now moved is = (sym moved, is ∙ sym (ap (after_note book venue note) moved))

pub answers_wanting : (book : BookParts) (venue : ℕ) (note : Note) (now : BookParts) → now ≡ book
    → ApplyAnswers book venue note (Err OutOfMemory) now
answers_wanting book venue note now same = (refl, same)

stays : (book : BookParts) (venue : ℕ) (note : Note) (answer : Applied) → answer ≢ applied.Moved
    → after_note book venue note answer ≡ book
stays book venue note applied.Moved differs = absurd (differs refl)
stays book venue note applied.Duplicate differs = refl
stays book venue note applied.Overfill differs = refl
stays book venue note applied.Stray differs = refl

pub answers_same : (book : BookParts) (venue : ℕ) (note : Note) (answer : Applied) (now : BookParts)
    → answer_to book venue note ≡ answer → answer ≢ applied.Moved → now ≡ book
    → ApplyAnswers book venue note (Ok answer) now
answers_same book venue note answer now is differs same =
    (sym is, same ∙ sym (ap (after_note book venue note) is ∙ stays book venue note answer differs))

-- a leg that isn't there, or is of another venue
pub stray_report : (book : BookParts) (venue : ℕ) (report : Report) → order_of report.id book.entries ≡ None
    → answer_to book venue (note.Report report) ≡ applied.Stray
stray_report book venue report none =
    ap (leg_answer book venue (is_booked venue report.exec book.entries) (move_of (note.Report report)) report.id) none

pub stray_refused : (book : BookParts) (venue : ℕ) (id : LegIdParts) → order_of id book.entries ≡ None
    → answer_to book venue (note.Refused id) ≡ applied.Stray
stray_refused book venue id none = ap (leg_answer book venue false Ends id) none

by_mark : (gone : Bool) (shares : ℕ) → 1 ≤ shares → gone ≡ nat_lt 0 (if gone then shares else 0)
by_mark true shares some = sym (lt-ltb 0 shares some)
by_mark false shares some = refl

-- the answer for a leg that is kept
module _ (book : BookParts) (sound : IsSound book) (venue : ℕ) (id : LegIdParts) (was : BookedLeg)
    (kept : option_map (booked_leg book id) (order_of id book.entries) ≡ Some was) (positive : 1 ≤ leg_shares was.parts)
    (duplicate : Bool) (move : Move) where
  abbrev pub leg_answer_by : (of_venue gone : Bool) (answer : Applied) → Applied
  leg_answer_by of_venue gone answer =
      if of_venue then (if duplicate then applied.Duplicate else (if gone then applied.Stray else answer))
      else applied.Stray

  pub gone_is : (routed : Routed) → order_of id book.entries ≡ Some routed → was ≡ booked_leg book id routed
      → is_withdrawn id book.entries ≡ nat_lt 0 was.parts.withdrawn
  gone_is routed found is =
      let shares = ap (λ l. leg_shares l.parts) is ∙ leg_adds_up book id routed sound found in
      let some : 1 ≤ routed.terms.shares = omega (arith, positive, shares) in
      by_mark (is_withdrawn id book.entries) routed.terms.shares some ∙ ap (λ l. nat_lt 0 l.parts.withdrawn) (sym is)

  -- in terms of what is kept
  pub kept_answer : leg_answer book venue duplicate move id (order_of id book.entries) ≡ leg_answer_by
      (was.venue == venue) (nat_lt 0 was.parts.withdrawn) (move_answer was.parts.still_open (moves_on id book) move)
  kept_answer =
      let it = order_kept book id (order_of id book.entries) was kept in
      let is = it.2 in
      let gone = gone_is it.0 it.1 it.2 in
      ap (leg_answer book venue duplicate move id) it.1
      ∙ (λ n. leg_answer_by ((sym is n).venue == venue) (gone n)
      (move_answer (sym is n).parts.still_open (moves_on id book) move))

-- what a note that moves makes of the leg
pub changes_moved : (book : BookParts) → IsSound book → IsTold book
    → (venue : ℕ) (note : Note) (id : LegIdParts) (was now : BookedLeg) → leg_of_note note ≡ Some id
    → ((k : LegIdParts) → is_about k note ≡ is_same_leg id k)
    → option_map (booked_leg book id) (order_of id book.entries) ≡ Some was → answer_to book venue note ≡ applied.Moved
    → now.venue ≡ was.venue → now.parts ≡ (split_step (moves_on id book) (move_of note) was.parts).1
    → ChangesLeg id was now (Moved venue note) book
changes_moved book sound told venue note id was now of_leg about kept moved of_venue parts =
    let it = order_kept book id (order_of id book.entries) was kept in
    let writes : after_note book venue note (answer_to book venue note) ≡ written
    (Moved venue note) book = ap (after_note book venue note) moved in
    let step = note_step book venue note id it.0 sound told of_leg it.1 moved in
    let same_parts = ap (λ l. l.parts) it.2 in
    let after : now.parts ≡ leg_parts id it.0.terms.shares (written (Moved venue note) book) = parts
    ∙ (ap (λ p. (split_step (moves_on id book) (move_of note) p).1) same_parts ∙ ap (λ r. r.1) step) in
    let at = of_venue ∙ ap (λ l. l.venue) it.2 in
    let now_is : now ≡ booked_leg
    (written (Moved venue note) book) id it.0 = λ n. record { venue = at n; parts = after n } in
    let less = less_step (moves_on id book) (move_of note) was.parts in
    let open_is = ap (λ p. p.still_open) parts in
    record {
      writes = writes;
      opens_none = refl;
      before = kept;
      after = ap (option_map (booked_leg (written (Moved venue note) book) id)) it.1 ∙ ap Some (sym now_is);
      others = λ other shares differs.
          ap (leg_parts other shares) (sym writes) ∙ others-apply book venue note other shares (about other ∙ differs);
      less = omega (arith, less, open_is);
    }

-- what is known of a note's answer and of its leg after it, by what was made of the leg
abbrev pub Judged : Applied → List Move → Move → BookedLeg → Result BookedLeg Applied → Type 0
Judged answer moves move was (Ok now) = (answer ≡ applied.Moved) × (now.venue ≡ was.venue)
    × (now.parts ≡ (split_step moves move was.parts).1)
Judged answer moves move was (Err other) = (answer ≡ other) × (other ≢ applied.Moved)

overfill_differs : applied.Overfill ≢ applied.Moved
overfill_differs e = cc

stray_differs : applied.Stray ≢ applied.Moved
stray_differs e = cc

judged_trade : (moves : List Move) (own : List ℕ) (n : ℕ) (was : BookedLeg) (b : Bool)
    → nat_le n was.parts.still_open ≡ b
    → Judged (if b then applied.Moved else applied.Overfill) moves (Trades (record { exec = own; shares = n })) was
    (with_parts was.venue applied.Overfill
    (if b then (Ok tt, record was.parts { filled = was.parts.filled + n; still_open = was.parts.still_open - n })
    else (Err Overfill, was.parts)))
judged_trade moves own n was true e =
    let step : (split_step moves (Trades (record { exec = own; shares = n })) was.parts).1 ≡ record was.parts
    { filled = was.parts.filled + n; still_open = was.parts.still_open - n } =
    ap (λ b. (let r : SplitAnswer = if b
    then (Ok tt, record was.parts { filled = was.parts.filled + n; still_open = was.parts.still_open - n })
    else (Err Overfill, was.parts) in r.1)) e in
    (refl, refl, sym step)
judged_trade moves own n was false e = (refl, overfill_differs)

judged_bust : (moves : List Move) (exec : List ℕ) (was : BookedLeg) (b : Bool) → can_bust exec moves ≡ b
    → (can_bust exec moves ≡ true → (q : SplitParts) × (split_bust was.parts (traded_under exec moves) ≡ (Ok tt, q)))
    → Judged (if b then applied.Moved else applied.Stray) moves (Busts exec) was
    (bust_leg was (if b then Some (traded_under exec moves) else None))
judged_bust moves exec was true e done =
    let fine = done e in
    subst (λ a. Judged applied.Moved moves (Busts exec) was (with_parts was.venue applied.Stray a)) (sym fine.1)
    (refl, refl, sym (ap (λ a. a.1) fine.1))
judged_bust moves exec was false e done = (refl, stray_differs)

judged_by : (moves : List Move) (own : List ℕ) (id : LegIdParts) (reports : Reports) (was : BookedLeg)
    → ((exec : List ℕ) → shares_on id (report_at reports exec) ≡ standing exec moves)
    → ((exec : List ℕ) → can_bust exec moves ≡ true
    → (q : SplitParts) × (split_bust was.parts (traded_under exec moves) ≡ (Ok tt, q))) → (kind : ReportKind)
    → Judged (move_answer was.parts.still_open moves (move_of_kind own kind)) moves (move_of_kind own kind) was
    (moved_by reports id kind was)
judged_by moves own id reports was stands done New = (refl, refl, refl)
judged_by moves own id reports was stands done (Trade fill) = judged_trade moves own fill.shares was
    (nat_le fill.shares was.parts.still_open) refl
judged_by moves own id reports was stands done Canceled = (refl, refl, refl)
judged_by moves own id reports was stands done Rejected = (refl, refl, refl)
judged_by moves own id reports was stands done Expired = (refl, refl, refl)
judged_by moves own id reports was stands done (Bust cancelled_id) =
    subst (λ o. Judged (if can_bust cancelled_id moves then applied.Moved else applied.Stray) moves
    (Busts cancelled_id) was (bust_leg was o)) (sym (stands cancelled_id))
    (judged_bust moves cancelled_id was (can_bust cancelled_id moves) refl (done cancelled_id))

-- a leg that is kept, of the note's venue and not withdrawn, under a new id
pub open_answer : (book : BookParts) → IsSound book → (venue : ℕ) (id : LegIdParts) (was : BookedLeg)
    → option_map (booked_leg book id) (order_of id book.entries) ≡ Some was → 1 ≤ leg_shares was.parts
    → (duplicate : Bool) (move : Move) → was.venue ≡ venue → duplicate ≡ false → nat_lt 0 was.parts.withdrawn ≡ false
    → leg_answer book venue duplicate move id (order_of id book.entries) ≡ move_answer was.parts.still_open
    (moves_on id book) move
open_answer book sound venue id was kept positive duplicate move of_venue fresh there =
    let here = eq-eqb was.venue venue of_venue in
    kept_answer book sound venue id was kept positive duplicate move
    ∙ (λ n. if here n then
    (if fresh n then applied.Duplicate
    else (if there n then applied.Stray else move_answer was.parts.still_open (moves_on id book) move))
    else applied.Stray)

-- a leg of another venue, a report that was booked, a leg that was withdrawn
pub elsewhere_answer : (book : BookParts) → IsSound book → (venue : ℕ) (id : LegIdParts) (was : BookedLeg)
    → option_map (booked_leg book id) (order_of id book.entries) ≡ Some was → 1 ≤ leg_shares was.parts
    → (duplicate : Bool) (move : Move) → (was.venue == venue) ≡ false
    → leg_answer book venue duplicate move id (order_of id book.entries) ≡ applied.Stray
elsewhere_answer book sound venue id was kept positive duplicate move other =
    kept_answer book sound venue id was kept positive duplicate move
    ∙ ap (λ b. if b then (if duplicate then applied.Duplicate
    else (if nat_lt 0 was.parts.withdrawn then applied.Stray else move_answer was.parts.still_open
    (moves_on id book) move)) else applied.Stray) other

pub duplicate_answer : (book : BookParts) → IsSound book → (venue : ℕ) (id : LegIdParts) (was : BookedLeg)
    → option_map (booked_leg book id) (order_of id book.entries) ≡ Some was → 1 ≤ leg_shares was.parts
    → (duplicate : Bool) (move : Move) → was.venue ≡ venue → duplicate ≡ true
    → leg_answer book venue duplicate move id (order_of id book.entries) ≡ applied.Duplicate
duplicate_answer book sound venue id was kept positive duplicate move of_venue repeats =
    let here = eq-eqb was.venue venue of_venue in
    kept_answer book sound venue id was kept positive duplicate move
    ∙ (λ n. if here n then
    (if repeats n then applied.Duplicate
    else (if nat_lt 0 was.parts.withdrawn then applied.Stray else move_answer was.parts.still_open
    (moves_on id book) move)) else applied.Stray)

pub gone_answer : (book : BookParts) → IsSound book → (venue : ℕ) (id : LegIdParts) (was : BookedLeg)
    → option_map (booked_leg book id) (order_of id book.entries) ≡ Some was → 1 ≤ leg_shares was.parts
    → (duplicate : Bool) (move : Move) → was.venue ≡ venue → duplicate ≡ false → nat_lt 0 was.parts.withdrawn ≡ true
    → leg_answer book venue duplicate move id (order_of id book.entries) ≡ applied.Stray
gone_answer book sound venue id was kept positive duplicate move of_venue fresh gone =
    let here = eq-eqb was.venue venue of_venue in
    kept_answer book sound venue id was kept positive duplicate move
    ∙ (λ n. if here n then
    (if fresh n then applied.Duplicate
    else (if gone n then applied.Stray else move_answer was.parts.still_open (moves_on id book) move))
    else applied.Stray)

-- a report on such a leg
module _ (book : BookParts) (sound : IsSound book) (told : IsTold book) (venue : ℕ) (report : Report) (was : BookedLeg)
    (kept : option_map (booked_leg book report.id) (order_of report.id book.entries) ≡ Some was)
    (positive : 1 ≤ leg_shares was.parts) (of_venue : was.venue ≡ venue)
    (free : is_booked venue report.exec book.entries ≡ false) (there : nat_lt 0 was.parts.withdrawn ≡ false)
    (reports : Reports) (stands : (exec : List ℕ)
    → shares_on report.id (report_at reports exec) ≡ standing exec (moves_on report.id book)) where
  answer_is : answer_to book venue (note.Report report) ≡ move_answer was.parts.still_open (moves_on report.id book)
      (move_of (note.Report report))
  answer_is = open_answer book sound venue report.id was kept positive (is_booked venue report.exec book.entries)
      (move_of (note.Report report)) of_venue free there

  -- a trade that can be busted has so many shares filled
  bust_done : (exec : List ℕ) → can_bust exec (moves_on report.id book) ≡ true
      → (q : SplitParts) × (split_bust was.parts (traded_under exec (moves_on report.id book)) ≡ (Ok tt, q))
  bust_done exec can =
      let it = order_kept book report.id (order_of report.id book.entries) was kept in
      let same = ap (λ l. l.parts) it.2 in
      let gone = gone_is book sound venue report.id was kept positive false (Busts exec) it.0 it.1 it.2 ∙ there in
      let within : IsWithin it.0.terms.shares false
      (moves_on report.id book) = subst (λ b. IsWithin it.0.terms.shares b (moves_on report.id book)) gone
      (sound.within report.id it.0 it.1) in
      let possible : move_answer (parts_of it.0.terms.shares false (moves_on report.id book)).still_open
      (moves_on report.id book)
      (Busts exec) ≡ applied.Moved = ap (λ b. if b then applied.Moved else applied.Stray) can in
      let step = step_is it.0.terms.shares (moves_on report.id book) (Busts exec) within (λ trade e. cc) possible in
      let parts : was.parts ≡ parts_of it.0.terms.shares false (moves_on report.id book) = same
      ∙ ap (λ b. parts_of it.0.terms.shares b (moves_on report.id book)) gone in (
        parts_of it.0.terms.shares false
            (moves_on report.id book ++ Busts exec ∷ []),
        ap (λ p. split_bust p (traded_under exec (moves_on report.id book))) parts ∙ step,
      )

  pub judged : Judged (answer_to book venue (note.Report report)) (moves_on report.id book)
      (move_of (note.Report report)) was (moved_by reports report.id report.kind was)
  judged =
      subst (λ a. Judged a (moves_on report.id book) (move_of (note.Report report)) was
      (moved_by reports report.id report.kind was)) (sym answer_is)
      (judged_by (moves_on report.id book) report.exec report.id reports was stands bust_done report.kind)

  -- a bust that moves names a trade that is kept
  pub busted_kept : answer_to book venue (note.Report report) ≡ applied.Moved → (cancelled_id : List ℕ)
      → report.kind ≡ Bust cancelled_id
      → (shares : ℕ) × (shares_on report.id (report_at reports cancelled_id) ≡ Some shares)
  busted_kept moved cancelled_id is =
      let possible : move_answer was.parts.still_open (moves_on report.id book)
      (move_of_kind report.exec (Bust cancelled_id)) ≡ applied.Moved =
      ap (λ k. move_answer was.parts.still_open (moves_on report.id book) (move_of_kind report.exec k)) (sym is)
      ∙ (sym answer_is ∙ moved) in
      let can = let_in_bust (can_bust cancelled_id (moves_on report.id book)) possible in (
        traded_under cancelled_id (moves_on report.id book),
        stands cancelled_id
            ∙ ap (λ b. if b then Some (traded_under cancelled_id (moves_on report.id book)) else None) can,
      )
