-- How a note that moves changes the resolved shares of its venue.
use Rattle.std.proofs.Common.{◌≡◌, ℕ, zero, suc, ◌+◌, ◌-◌, Bool, true, false, List, Option, Some, None, Ok, Err, refl, ap, ◌∙◌, arith, add-zero, if◌then◌else◌}
use Rattle.std.specs.Prelude.{◌==◌, slice_get, option_and_then, nat_le}
use Rattle.std.proofs.lemmas.Bool.{leb-true}
use Rattle.leg.specs.LegId.{LegIdParts}
use Rattle.leg.specs.Numbered.{numbered}
use Rattle.leg.specs.Split.{SplitParts, SplitAnswer}
use Rattle.leg.specs.declared.fault.LegFault.TheVariants.{Overfill, NotFilled}
use Rattle.leg.specs.declared.sweep.Routed.{Routed}
use Rattle.dialect.specs.Fill.{FillParts}
use Rattle.dialect.specs.declared.note.Note.{Note}
use Rattle.dialect.specs.declared.note.Note.TheVariants as note
use Rattle.dialect.specs.declared.report.Report.{Report}
use Rattle.dialect.specs.declared.report.ReportKind.{ReportKind}
use Rattle.dialect.specs.declared.report.ReportKind.TheVariants.{New, Trade, Bust}
use Rattle.share_ledger.specs.declared.applied.Applied.TheVariants as applied
use Rattle.share_ledger.specs.declared.book_entry.BookEntry.{BookEntry}
use Rattle.share_ledger.specs.declared.book_entry.BookEntry.TheVariants.{Moved}
use Rattle.share_ledger.specs.Entries.{opened, order_of, is_same_leg, is_withdrawn, is_about, notes_on, is_booked}
use Rattle.share_ledger.specs.Shares.{move_of}
use Rattle.share_ledger.specs.Book.{BookParts, new_book, written, moves_on, leg_parts, all_booked_from, resolved_of, venue_resolved, answer_to, after_note, apply, replay}
use Rattle.share_ledger.specs.Steps.{traded_under, split_step}
use Rattle.share_ledger.proofs.OneMore.{opened-moved, is_withdrawn-moved, notes_on-other}
use Rattle.share_ledger.proofs.Outcomes.{answered, same_parts}
use Rattle.share_ledger.proofs.Sound.{let_in}
use Rattle.share_ledger.proofs.LegSteps.{steps-apply}
use Rattle.share_ledger.proofs.VenueSums.{at_venue, hit_all}

numbered_at : {A : Type 0} (n : ℕ) (xs : List A) (x : A) → numbered n xs ≡ Some x
    → (m : ℕ) × (n ≡ 1 + m) × (slice_get xs m ≡ Some x)
numbered_at zero xs x e = cc
numbered_at (suc m) xs x e = (m, omega arith, e)

found_in : {A B : Type 0} (f : A → Option B) (o : Option A) (x : B) → option_and_then f o ≡ Some x
    → (a : A) × (o ≡ Some a) × (f a ≡ Some x)
found_in f None x e = cc
found_in f (Some a) x e = (a, refl, e)

-- what the leg's resolved shares gain, its venue's gain
pub gains : (book : BookParts) (venue : ℕ) (note : Note) (id : LegIdParts) (routed : Routed)
    → ((k : LegIdParts) → is_about k note ≡ is_same_leg id k) → order_of id book.entries ≡ Some routed
    → (routed.venue == venue) ≡ true
    → venue_resolved (written (Moved venue note) book) venue + resolved_of
    (leg_parts id routed.terms.shares book) ≡ venue_resolved book venue + resolved_of
    (leg_parts id routed.terms.shares (written (Moved venue note) book))
gains book venue note id routed about found of_venue =
    let after = written (Moved venue note) book in
    let others : (other : LegIdParts) (shares : ℕ) → is_same_leg id other ≡ false
    → leg_parts other shares after ≡ leg_parts other shares book = λ other shares differs.
    same_parts shares (is_withdrawn other book.entries) (is_withdrawn other after.entries) (notes_on other book.entries)
    (notes_on other after.entries)
    (is_withdrawn-moved other book.entries venue note)
    (notes_on-other other book.entries venue note (about other ∙ differs)) in
    let sweep = found_in (numbered id.place) (numbered id.sweep (opened book.entries)) routed found in
    let at_sweep = numbered_at id.sweep (opened book.entries) sweep.0 sweep.1 in
    let at_place = numbered_at id.place sweep.0 routed sweep.2 in
    let hit = hit_all book after id others venue routed of_venue 1 at_sweep.0 at_place.0
    (opened book.entries) sweep.0 at_sweep.1 at_sweep.2 at_place.1 at_place.2 in
    ap (λ sweeps. at_venue venue (all_booked_from after 1 sweeps) + resolved_of (leg_parts id routed.terms.shares book))
    (opened-moved book.entries venue note) ∙ hit

filled_more : (b : Bool) (s : SplitParts) (n : ℕ) (t : SplitParts)
    → (let r : SplitAnswer = if b then (Ok tt, record s { filled = s.filled + n; still_open = s.still_open - n })
    else (Err Overfill, s) in r ≡ (Ok tt, t)) → resolved_of t ≡ resolved_of s + n
filled_more true s n t e = let f = ap (λ r. resolved_of r.1) e in omega (arith, f)
filled_more false s n t e = let never = ap (λ r. r.0) e in cc

busted_same : (s : SplitParts) (n : ℕ) (t : SplitParts) (b : Bool) → nat_le n s.filled ≡ b
    → (let r : SplitAnswer = if b then (Ok tt, record s { filled = s.filled - n; busted = s.busted + n })
    else (Err NotFilled, s) in r ≡ (Ok tt, t)) → resolved_of t ≡ resolved_of s
busted_same s n t true h e = let f = ap (λ r. resolved_of r.1) e in let low = leb-true n s.filled h in omega
    (arith, f, low)
busted_same s n t false h e = let never = ap (λ r. r.0) e in cc

module _ (venues : ℕ) (entries : List BookEntry) (venue : ℕ) (id : LegIdParts) (exec : List ℕ) where
  report_gains : (kind : ReportKind) (n : ℕ)
      → (let r : Report = record { id = id; exec = exec; kind = kind } in
      (apply (replay (new_book venues) entries) venue (note.Report r)).0 ≡ Ok applied.Moved)
      → ((s t : SplitParts)
      → split_step (moves_on id (replay (new_book venues) entries))
      (let r : Report = record { id = id; exec = exec; kind = kind } in move_of (note.Report r)) s ≡ (Ok tt, t)
      → resolved_of t ≡ resolved_of s + n)
      → (let r : Report = record { id = id; exec = exec; kind = kind } in venue_resolved
      (apply (replay (new_book venues) entries) venue (note.Report r)).1 venue ≡ venue_resolved
      (replay (new_book venues) entries) venue + n)
  report_gains kind n ok by =
      let report : Report = record { id = id; exec = exec; kind = kind } in
      let book = replay (new_book venues) entries in
      let moved = answered (answer_to book venue (note.Report report)) applied.Moved ok in
      let it = let_in book venue (is_booked venue exec book.entries) (move_of (note.Report report)) id
      (order_of id book.entries) refl moved in
      let shares = it.order.terms.shares in
      let step = steps-apply venues entries venue (note.Report report) id it.order refl it.found ok in
      let after : (apply book venue (note.Report report)).1 ≡ written
      (Moved venue (note.Report report)) book = ap (after_note book venue (note.Report report)) moved in
      let gained = by (leg_parts id shares book) (leg_parts id shares (written (Moved venue (note.Report report)) book))
      (step ∙ ap (λ b. (Ok tt, leg_parts id shares b)) after) in
      let whole = gains book venue (note.Report report) id it.order (λ k. refl) it.found it.of_venue in
      let sum : venue_resolved
      (written (Moved venue (note.Report report)) book) venue ≡ venue_resolved book venue + n = omega
      (arith, gained, whole) in
      ap (λ b. venue_resolved b venue) after ∙ sum

  pub resolved-trade : (fill : FillParts)
      → (apply (replay (new_book venues) entries) venue
      (note.Report (record { id = id; exec = exec; kind = Trade fill }))).0 ≡ Ok applied.Moved
      → venue_resolved (apply (replay (new_book venues) entries) venue
      (note.Report (record { id = id; exec = exec; kind = Trade fill }))).1 venue ≡ venue_resolved
      (replay (new_book venues) entries) venue + fill.shares
  resolved-trade fill moved = report_gains (Trade fill) fill.shares moved
      (λ s t e. filled_more (nat_le fill.shares s.still_open) s fill.shares t e)

  pub resolved-bust : (cancelled_id : List ℕ)
      → (apply (replay (new_book venues) entries) venue
      (note.Report (record { id = id; exec = exec; kind = Bust cancelled_id }))).0 ≡ Ok applied.Moved
      → venue_resolved (apply (replay (new_book venues) entries) venue
      (note.Report (record { id = id; exec = exec; kind = Bust cancelled_id }))).1 venue ≡ venue_resolved
      (replay (new_book venues) entries) venue
  resolved-bust cancelled_id moved =
      let book = replay (new_book venues) entries in
      let n = traded_under cancelled_id (moves_on id book) in
      report_gains (Bust cancelled_id) 0 moved
      (λ s t e. (let same = busted_same s n t (nat_le n s.filled) refl e in omega (arith, same)))
      ∙ add-zero (venue_resolved book venue)

  pub resolved-new : (apply (replay (new_book venues) entries) venue
      (note.Report (record { id = id; exec = exec; kind = New }))).0 ≡ Ok applied.Moved
      → venue_resolved (apply (replay (new_book venues) entries) venue
      (note.Report (record { id = id; exec = exec; kind = New }))).1 venue ≡ venue_resolved
      (replay (new_book venues) entries) venue
  resolved-new moved =
      let book = replay (new_book venues) entries in
      report_gains New 0 moved (λ s t e. (let same = ap (λ r. resolved_of r.1) e in omega (arith, same)))
      ∙ add-zero (venue_resolved book venue)
