-- The withdrawal of a leg, from what is kept of it.
use Rattle.std.proofs.Common.{◌≡◌, ◌≤◌, Bool, true, false, Some, None, Ok, Err, refl, ap, sym, ◌∙◌, subst, arith, if◌then◌else◌}
use Rattle.std.specs.Prelude.{◌==◌, option_map, Result, not, is_err, IsOk}
use Rattle.std.proofs.lemmas.Bool.{ne_eqb}
use Rattle.leg.specs.LegId.{LegIdParts}
use Rattle.leg.specs.Split.{SplitParts, SplitAnswer, leg_shares, split_withdraw}
use Rattle.leg.specs.declared.fault.LegFault.{LegFault}
use Rattle.leg.specs.declared.fault.LegFault.TheVariants.{AlreadyMoved as Moved}
use Rattle.leg.specs.declared.sweep.Routed.{Routed}
use Rattle.share_ledger.specs.declared.book_entry.BookEntry.TheVariants.{Withdrawn}
use Rattle.share_ledger.specs.declared.book_fault.BookFault.TheVariants.{AlreadyMoved}
use Rattle.share_ledger.specs.Entries.{order_of}
use Rattle.share_ledger.specs.Book.{BookParts, BookedLeg, BookAnswer, written, leg_parts, withdraw, withdraw_order}
use Rattle.share_ledger.specs.Kept.{booked_leg, legs_due, ChangesLeg}
use Rattle.share_ledger.proofs.Sound.{IsSound}
use Rattle.share_ledger.proofs.Adding.{leg_adds_up}
use Rattle.share_ledger.proofs.LegSteps.{withdraw_found}
use Rattle.share_ledger.proofs.Outcomes.{others-withdraw}
use Rattle.share_ledger.proofs.KeptChanged.{order_kept}

not_not : (b : Bool) → not (not b) ≡ b
not_not true = refl
not_not false = refl

split_test : (b : Bool) (s : SplitParts) (r : Result (Unit {0}) LegFault) (t : SplitParts)
    → (let a : SplitAnswer = if b then (Ok tt, record s { withdrawn = s.still_open; still_open = 0 })
    else (Err Moved, s) in (r, t) ≡ a) → is_err r ≡ not b
split_test true s r t e = ap (λ a. is_err a.0) e
split_test false s r t e = ap (λ a. is_err a.0) e

-- a split's withdrawal is refused where the test fails
pub withdraw_test : (s : SplitParts) (r : Result (Unit {0}) LegFault) (t : SplitParts) → (r, t) ≡ split_withdraw s
    → (s.still_open == leg_shares s) ≡ not (is_err r)
withdraw_test s r t e =
    let test = split_test (s.still_open == leg_shares s) s r t e in
    sym (not_not (s.still_open == leg_shares s)) ∙ ap not (sym test)

pub withdraw_unknown : (book : BookParts) (id : LegIdParts) → order_of id book.entries ≡ None
    → (let r : BookAnswer = (Err AlreadyMoved, book) in r ≡ withdraw book id)
withdraw_unknown book id none = ap (withdraw_order book id) (sym none)

module _ (book : BookParts) (sound : IsSound book) (id : LegIdParts) (was : BookedLeg)
    (kept : option_map (booked_leg book id) (order_of id book.entries) ≡ Some was) where
  -- the test of the definition is that of the parts
  same_test : (routed : Routed) → order_of id book.entries ≡ Some routed → was ≡ booked_leg book id routed
      → ((leg_parts id routed.terms.shares book).still_open == routed.terms.shares) ≡
      (was.parts.still_open == leg_shares was.parts)
  same_test routed found is =
      let parts = ap (λ l. l.parts) is in
      let adds = leg_adds_up book id routed sound found in
      ap (λ n. (leg_parts id routed.terms.shares book).still_open == n) (sym adds)
      ∙ ap (λ p. p.still_open == leg_shares p) (sym parts)

  pub withdraw_refused : (was.parts.still_open == leg_shares was.parts) ≡ false
      → (let r : BookAnswer = (Err AlreadyMoved, book) in r ≡ withdraw book id)
  withdraw_refused moved =
      let it = order_kept book id (order_of id book.entries) was kept in
      let test = same_test it.0 it.1 it.2 ∙ moved in
      sym (ap (withdraw_order book id) it.1
      ∙ ap (λ b. (let r : BookAnswer = if b then (Ok tt, written (Withdrawn id) book) else (Err AlreadyMoved, book) in
      r)) test)

  module _ (whole : (was.parts.still_open == leg_shares was.parts) ≡ true) where
    pub withdraw_done : (let r : BookAnswer = (Ok tt, written (Withdrawn id) book) in r ≡ withdraw book id)
    withdraw_done =
        let it = order_kept book id (order_of id book.entries) was kept in
        let test = same_test it.0 it.1 it.2 ∙ whole in
        sym (ap (withdraw_order book id) it.1
        ∙ ap (λ b. (let r : BookAnswer = if b then (Ok tt, written (Withdrawn id) book) else (Err AlreadyMoved, book) in
        r)) test)

    parts_after : (routed : Routed) → order_of id book.entries ≡ Some routed → was ≡ booked_leg book id routed
        → (split_withdraw was.parts).1 ≡ leg_parts id routed.terms.shares (written (Withdrawn id) book)
    parts_after routed found is =
        let done : withdraw_order book id
        (Some routed) ≡ (Ok tt, written (Withdrawn id) book) = ap (withdraw_order book id) (sym found)
        ∙ sym withdraw_done in
        let ok : IsOk (withdraw_order book id (Some routed)).0 = subst (λ r. IsOk r.0) (sym done) refl in
        ap (λ l. (split_withdraw l.parts).1) is
        ∙ (ap (λ r. r.1) (withdraw_found book id routed sound found ok)
        ∙ ap (λ r. leg_parts id routed.terms.shares r.1) done)

    pub withdraw_changes : (now : BookedLeg) → now.venue ≡ was.venue → now.parts ≡ (split_withdraw was.parts).1
        → ChangesLeg id was now (Withdrawn id) book
    withdraw_changes now venue parts =
        let it = order_kept book id (order_of id book.entries) was kept in
        let after = parts ∙ parts_after it.0 it.1 it.2 in
        let of_venue = venue ∙ ap (λ l. l.venue) it.2 in
        let now_is : now ≡ booked_leg
        (written (Withdrawn id) book) id it.0 = λ n. record { venue = of_venue n; parts = after n } in
        let none : (split_withdraw was.parts).1.still_open ≡ 0 = rw whole refl in
        let less = ap (λ p. p.still_open) parts in
        record {
          writes = ap (λ r. r.1) (sym withdraw_done);
          opens_none = refl;
          before = kept;
          after = ap (option_map (booked_leg (written (Withdrawn id) book) id)) it.1 ∙ ap Some (sym now_is);
          others = λ other shares differs. ap (λ r. leg_parts other shares r.1) withdraw_done
              ∙ others-withdraw book id other shares differs;
          less = omega (arith, less, none);
        }

    -- once withdrawn, it may not be again
    pub withdraw_due : (now : BookedLeg) → now.parts ≡ (split_withdraw was.parts).1
        → leg_shares now.parts ≡ leg_shares was.parts → 1 ≤ leg_shares was.parts
        → (legs_due was ≡ 1) × (legs_due now ≡ 0)
    withdraw_due now parts same some =
        let none : (split_withdraw was.parts).1.still_open ≡ 0 = rw whole refl in
        let less = ap (λ p. p.still_open) parts in
        let moved : (now.parts.still_open == leg_shares now.parts) ≡ false = ne_eqb now.parts.still_open
        (leg_shares now.parts) (λ e. absurd (omega (arith, e, less, none, same, some))) in
        (rw whole refl, rw moved refl)
