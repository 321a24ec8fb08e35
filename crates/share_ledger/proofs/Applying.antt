-- A note of a leg that is kept, of the note's venue and not withdrawn.
use Rattle.std.proofs.Common.{◌≡◌, ℕ, ◌<◌, inl, inr, Bool, false, List, length, set, Some, Ok, Err, refl, ap, sym, ◌∙◌, subst, arith}
use Rattle.std.specs.Prelude.{option_map, not, nat_eq, nat_lt, Result, is_some, get_or, OnErr}
use Rattle.std.proofs.lemmas.Bool.{cases_eq, eqb-true, not-false}
use Rattle.std.proofs.lemmas.List.{get_or_read, get_or-set_same, get_or-set_other, length-set}
use Rattle.leg.specs.LegId.{LegIdParts}
use Rattle.leg.specs.Split.{IsSplit, split_cancel_rest}
use Rattle.leg.specs.declared.sweep.Routed.{Routed}
use Rattle.dialect.specs.declared.note.Note.TheVariants as note
use Rattle.dialect.specs.declared.report.Report.{Report}
use Rattle.share_ledger.specs.declared.applied.Applied.{Applied}
use Rattle.share_ledger.specs.declared.applied.Applied.TheVariants as applied
use Rattle.share_ledger.specs.declared.book_entry.BookEntry.TheVariants.{Moved}
use Rattle.share_ledger.specs.declared.book_fault.BookFault.{BookFault}
use Rattle.share_ledger.specs.declared.ledger.Ledger.{Ledger}
use Rattle.share_ledger.specs.declared.reports.Reports.{Reports}
use Rattle.share_ledger.specs.Entries.{order_of}
use Rattle.share_ledger.specs.Shares.{Ends, move_of}
use Rattle.share_ledger.specs.Book.{BookParts, BookedLeg, written, moves_on, answer_to}
use Rattle.share_ledger.specs.Reports.{report_at, shares_on, report_after, moved_by}
use Rattle.share_ledger.specs.Kept.{ledger_seen, booked_leg, standing, ChangesLeg, IsNewOn, MovesLeg, MovesNothing, IsLegOf, IsKept, AreTold, IsKeptBook}
use Rattle.share_ledger.proofs.Told.{IsTold, told-replay}
use Rattle.share_ledger.proofs.KeptChanged.{sound_kept, order_kept}
use Rattle.share_ledger.proofs.KeptTold.{told_moved}
use Rattle.share_ledger.proofs.KeptMoved.{Judged, judged, busted_kept, open_answer, changes_moved}

told_kept : (ledger : Ledger) → IsKept ledger → IsTold (ledger_seen ledger)
told_kept ledger h = subst IsTold h.replays (told-replay (length ledger.resolved.items) ledger.history.items)

pub same_venue : (a b : ℕ) → not (nat_eq a b) ≡ false → a ≡ b
same_venue a b e = eqb-true a b (not-false (nat_eq a b) e)

-- what is said where a call answers out of memory, of a call that may
pub wants : (r : Result Applied BookFault) (P : Type 0) → P → OnErr r P
wants (Ok x) P p = tt
wants (Err fault) P p = p

-- the refusal of a leg's order
module _ (ledger : Ledger) (h : IsKept ledger) (venue : ℕ) (id : LegIdParts) (was : BookedLeg)
    (kept : option_map (booked_leg (ledger_seen ledger) id) (order_of id ledger.history.items) ≡ Some was)
    (range : IsSplit was.parts) (of_venue : was.venue ≡ venue) (there : nat_lt 0 was.parts.withdrawn ≡ false) where
  pub refusal_moves : answer_to (ledger_seen ledger) venue (note.Refused id) ≡ applied.Moved
  refusal_moves =
      let shares = range.shares in
      open_answer (ledger_seen ledger) (sound_kept ledger h) venue id was kept shares.low false Ends of_venue refl there

  pub refusal_changes : (now : BookedLeg) → now.venue ≡ was.venue → now.parts ≡ split_cancel_rest was.parts
      → ChangesLeg id was now (Moved venue (note.Refused id)) (ledger_seen ledger)
  refusal_changes now venue_is parts =
      changes_moved (ledger_seen ledger) (sound_kept ledger h) (told_kept ledger h) venue
      (note.Refused id) id was now refl (λ k. refl) kept refusal_moves venue_is parts

reports_at : (all : List Reports) (venue : ℕ) (was now : Reports) → venue < length all → was ≡ get_or all venue was
    → ((exec : List ℕ) → report_at now exec ≡ report_at was exec) → (v : ℕ) (other : Reports) (exec : List ℕ)
    → report_at (get_or (set all venue now) v other) exec ≡ report_at (get_or all v other) exec
reports_at all venue was now there was_is same v other exec =
    elim (cases_eq v venue) [
      | inl here ↦
          ap (λ n. report_at (get_or (set all venue now) n other) exec) here
          ∙ (ap (λ r. report_at r exec) (get_or-set_same all venue now other there)
          ∙ (same exec
          ∙ (ap (λ r. report_at r exec) (get_or_read all venue was there was_is other)
          ∙ ap (λ n. report_at (get_or all n other) exec) (sym here))))
      | inr differs ↦ ap (λ r. report_at r exec) (get_or-set_other all venue v now other differs)
    ]

-- the same reports, in another order of their table
pub told_reordered : (all : List Reports) (book : BookParts) (venue : ℕ) (was now : Reports) → AreTold all book
    → venue < length all → was ≡ get_or all venue was → ((exec : List ℕ) → report_at now exec ≡ report_at was exec)
    → AreTold (set all venue now) book
told_reordered all book venue was now h there was_is same =
    let has = h.has in
    let stands = h.standing_on in
    record {
      count = length-set all venue now ∙ h.count;
      has = λ v other exec inside.
          (let old_there : v < length all = omega (arith, inside, length-set all venue now) in
          ap is_some (reports_at all venue was now there was_is same v other exec) ∙ has v other exec old_there);
      standing_on = λ v other exec id inside of.
          (let old_there : v < length all = omega (arith, inside, length-set all venue now) in
          ap (shares_on id) (reports_at all venue was now there was_is same v other exec)
          ∙ stands v other exec id old_there of);
    }

-- a report on a leg that is kept, of the report's venue, where no report of that id was booked
pub is_new_on : (ledger : Ledger) (all : List Reports) → IsKeptBook ledger all → (venue : ℕ) (report : Report)
    (leg : BookedLeg) (at : ℕ) (reports : Reports)
    → option_map (booked_leg (ledger_seen ledger) report.id) (order_of report.id ledger.history.items) ≡ Some leg
    → IsSplit leg.parts → leg.venue ≡ venue → at ≡ venue → reports ≡ get_or all at reports
    → is_some (report_at reports report.exec) ≡ false → IsNewOn leg venue report (ledger_seen ledger)
is_new_on ledger all h venue report leg at reports kept range of_venue at_is reports_are fresh =
    let sums = h.sums in
    let told = h.told in
    let within = sums.known in
    let legs = sums.legs in
    let inside = within report.id leg (legs report.id ∙ kept) in
    let known : venue < length ledger.resolved.items = omega (arith, inside, of_venue) in
    let count = told.count in
    let venue_there : venue < length all = omega (arith, known, count) in
    let has = told.has in
    record {
      kept = kept;
      range = range;
      known = known;
      of_venue = of_venue;
      fresh =
          sym (has venue reports report.exec venue_there)
          ∙ (ap (λ r. is_some (report_at r report.exec)) (sym (reports_are ∙ ap (λ n. get_or all n reports) at_is))
          ∙ fresh);
    }

-- a new report on a leg that isn't withdrawn
module _ (ledger : Ledger) (all : List Reports) (h : IsKeptBook ledger all) (venue : ℕ) (report : Report)
    (was : BookedLeg) (on : IsNewOn was venue report (ledger_seen ledger))
    (there : nat_lt 0 was.parts.withdrawn ≡ false) (reports : Reports) (at : ℕ) (at_is : at ≡ venue)
    (reports_at_are : reports ≡ get_or all at reports) where
  reports_are : reports ≡ get_or all venue reports
  reports_are = reports_at_are ∙ ap (λ n. get_or all n reports) at_is

  venue_there : venue < length all
  venue_there =
      let told = h.told in
      let known = on.known in
      let count = told.count in
      omega (arith, known, count)

  of_order : (routed : Routed) → order_of report.id ledger.history.items ≡ Some routed → routed.venue ≡ venue
  of_order routed found =
      let it = order_kept (ledger_seen ledger) report.id (order_of report.id ledger.history.items) was on.kept in
      let also = it.1 in
      let same : it.0 ≡ routed = cc in
      sym (ap (λ r. r.venue) same) ∙ (sym (ap (λ l. l.venue) it.2) ∙ on.of_venue)

  stands : (exec : List ℕ)
      → shares_on report.id (report_at reports exec) ≡ standing exec (moves_on report.id (ledger_seen ledger))
  stands exec =
      let told = h.told in
      let standing_on = told.standing_on in
      ap (λ r. shares_on report.id (report_at r exec)) reports_are
      ∙ standing_on venue reports exec report.id venue_there of_order

  -- what the reports make of the leg is what the definition does
  judged_report : (moved : Result BookedLeg Applied) → moved_by reports report.id report.kind was ≡ moved
      → Judged (answer_to (ledger_seen ledger) venue (note.Report report)) (moves_on report.id (ledger_seen ledger))
      (move_of (note.Report report)) was moved
  judged_report moved is =
      let range = on.range in
      let shares = range.shares in
      subst (Judged (answer_to (ledger_seen ledger) venue (note.Report report))
      (moves_on report.id (ledger_seen ledger)) (move_of (note.Report report)) was) is
      (judged (ledger_seen ledger) (sound_kept ledger h.sums) (told_kept ledger h.sums) venue report was on.kept
      shares.low on.of_venue on.fresh there reports stands)

  -- where the report can't be written, the same reports are kept, in another order of their table
  pub told_unwritten : (now : Reports) → ((exec : List ℕ) → report_at now exec ≡ report_at reports exec)
      → AreTold (set all at now) (ledger_seen ledger)
  told_unwritten now same =
      subst (λ n. AreTold (set all n now) (ledger_seen ledger)) (sym at_is)
      (told_reordered all (ledger_seen ledger) venue reports now h.told venue_there reports_are same)

  pub told_written : (now : Reports)
      → ((exec : List ℕ) → report_at now exec ≡ report_after reports report exec)
      → answer_to (ledger_seen ledger) venue (note.Report report) ≡ applied.Moved
      → AreTold (set all at now) (written (Moved venue (note.Report report)) (ledger_seen ledger))
  told_written now after moved =
      let it = order_kept (ledger_seen ledger) report.id (order_of report.id ledger.history.items) was on.kept in
      let range = on.range in
      let shares = range.shares in
      subst (λ n. AreTold (set all n now) (written (Moved venue (note.Report report)) (ledger_seen ledger))) (sym at_is)
      (told_moved all (ledger_seen ledger) venue report it.0 h.told venue_there it.1 (of_order it.0 it.1) on.fresh
      (told_kept ledger h.sums) (sound_kept ledger h.sums) reports now reports_are after
      (busted_kept (ledger_seen ledger) (sound_kept ledger h.sums) (told_kept ledger h.sums) venue report was on.kept
      shares.low on.of_venue on.fresh there reports stands moved))

-- what the report makes of that leg
module _ (ledger : Ledger) (all : List Reports) (h : IsKeptBook ledger all) (venue : ℕ) (report : Report)
    (book : BookParts) (seen : ledger_seen ledger ≡ book) (leg : Result BookedLeg Applied) (was : BookedLeg)
    (leg_of : IsLegOf book venue report leg) (leg_is : leg ≡ Ok was) (gone : Bool)
    (gone_is : gone ≡ nat_lt 0 was.parts.withdrawn) (there : gone ≡ false) (at : ℕ) (at_is : at ≡ venue)
    (reports : Reports) (reports_are : reports ≡ get_or all at reports) where
  on : IsNewOn was venue report (ledger_seen ledger)
  on = subst (IsNewOn was venue report) (sym seen) (subst (IsLegOf book venue report) leg_is leg_of)

  made : (moved : Result BookedLeg Applied) → moved_by reports report.id report.kind was ≡ moved
      → Judged (answer_to (ledger_seen ledger) venue (note.Report report)) (moves_on report.id (ledger_seen ledger))
      (move_of (note.Report report)) was moved
  made = judged_report ledger all h venue report was on (sym gone_is ∙ there) reports at at_is reports_are

  pub moves_leg : (now : BookedLeg) → moved_by reports report.id report.kind was ≡ Ok now
      → MovesLeg (record { was = was; now = now }) venue report book
  moves_leg now is =
      let it = made (Ok now) is in
      let kept = on.kept in
      subst (MovesLeg (record { was = was; now = now }) venue report) seen
      (record {
        on = on;
        there = sym gone_is ∙ there;
        answer = it.0;
        changes = changes_moved (ledger_seen ledger) (sound_kept ledger h.sums) (told_kept ledger h.sums) venue
            (note.Report report) report.id was now refl (λ k. refl) kept it.0 it.1 it.2;
      })

  pub moves_nothing : (answer : Applied) → moved_by reports report.id report.kind was ≡ Err answer
      → MovesNothing book venue report answer
  moves_nothing answer is =
      subst (λ b. MovesNothing b venue report answer) seen (made (Err answer) is)
