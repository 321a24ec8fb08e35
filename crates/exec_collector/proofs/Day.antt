-- What is kept beside the counted book, as more is asked of that.
use Rattle.std.proofs.Common.{◌≡◌, ℕ, ◌+◌, Bool, true, false, List, [], ◌∷◌, ◌++◌, length, take, map, Result, Err, inl, inr, refl, ap, sym, subst, ◌∙◌, arith, if◌then◌else◌}
use Rattle.std.specs.Prelude.{Option}
use Rattle.std.proofs.Math.Seq.{take-length}
use Rattle.std.proofs.lemmas.List.{append-nil, length-append, take-append-le}
use Rattle.std.proofs.lemmas.List.Sums.{sum_by_push}
use Rattle.leg.specs.LegId.{LegIdParts}
use Rattle.leg.specs.declared.sweep.Sweep.{Sweep}
use Rattle.dialect.specs.Fill.{FillParts}
use Rattle.dialect.specs.declared.note.Note.{Note}
use Rattle.leg_worth.specs.declared.worth.Worth.{Worth}
use Rattle.leg_worth.specs.Kept.{AreKept}
use Rattle.leg_worth.proofs.Asking.{kept_opened, kept_withdrawn}
use Rattle.share_ledger.specs.declared.applied.Applied.{Applied}
use Rattle.share_ledger.specs.declared.applied.Applied.TheVariants as applied
use Rattle.share_ledger.specs.declared.book_entry.BookEntry.{BookEntry}
use Rattle.share_ledger.specs.declared.book_entry.BookEntry.TheVariants.{Opened, Withdrawn, Moved}
use Rattle.share_ledger.specs.declared.book_fault.BookFault.{BookFault}
use Rattle.share_ledger.specs.declared.book_fault.BookFault.TheVariants.{AlreadyMoved}
use Rattle.share_ledger.specs.Book.{BookParts, BookAnswer, answer_to, next_sweep, withdraw, again, replay}
use Rattle.share_ledger.specs.Entries.{order_of}
use Rattle.share_ledger.proofs.Outcomes.{open_outcome, withdraw_outcome}
use Rattle.exec_collector.specs.declared.unbooked.Unbooked.{Unbooked}
use Rattle.exec_collector.specs.Booked.{is_of_venue, withdraw_of}
use Rattle.exec_collector.specs.Day.{notes_written, note_count, disputed, disputed_by}
use Rattle.exec_collector.specs.Resolved.{OnlyOpens}
use Rattle.exec_collector.specs.Unbooked.{CountedParts, after_given, unbooked_by}

-- ---- how many notes were given

notes-append : (xs ys : List BookEntry) → notes_written (xs ++ ys) ≡ notes_written xs + notes_written ys
notes-append [] ys = omega arith
notes-append (Opened sweep ∷ xs) ys = notes-append xs ys
notes-append (Withdrawn id ∷ xs) ys = notes-append xs ys
notes-append (Moved venue note ∷ xs) ys = omega (arith, notes-append xs ys)

count_by : (counted : CountedParts) (venue : ℕ) (note : Note) (answer : Applied)
    → note_count (after_given counted venue note answer) ≡ note_count counted + 1
count_by counted venue note applied.Moved =
    omega (arith, notes-append counted.book.entries (Moved venue note ∷ []), ap length (append-nil counted.unbooked))
count_by counted venue note applied.Duplicate = omega (
  arith,
  length-append counted.unbooked
      (unbooked_by venue note applied.Duplicate (length counted.book.entries)),
)
count_by counted venue note applied.Overfill = omega (
  arith,
  length-append counted.unbooked
      (unbooked_by venue note applied.Overfill (length counted.book.entries)),
)
count_by counted venue note applied.Stray = omega (
  arith,
  length-append counted.unbooked
      (unbooked_by venue note applied.Stray (length counted.book.entries)),
)

pub count_given : (counted after : CountedParts) (venue : ℕ) (note : Note)
    → after ≡ after_given counted venue note (answer_to counted.book venue note)
    → note_count after ≡ note_count counted + 1
count_given counted after venue note is = ap note_count is
    ∙ count_by counted venue note (answer_to counted.book venue note)

-- ---- what is disputed

disputed_last : (id : LegIdParts) (unbooked : List Unbooked) (item : Unbooked)
    → disputed id (unbooked ++ item ∷ []) ≡ disputed id unbooked + disputed_by id item.note item.answer
disputed_last id unbooked item =
    sum_by_push (λ (x : Unbooked). disputed_by id x.note x.answer) unbooked item

disputed_more : (id : LegIdParts) (counted : CountedParts) (venue : ℕ) (note : Note) (answer : Applied)
    → disputed id (after_given counted venue note answer).unbooked
    ≡ disputed id counted.unbooked + disputed_by id note answer
disputed_more id counted venue note applied.Moved =
    omega (arith, ap (disputed id) (append-nil counted.unbooked))
disputed_more id counted venue note applied.Duplicate =
    disputed_last id counted.unbooked (record
    { venue = venue; note = note; answer = applied.Duplicate; entries = length counted.book.entries })
disputed_more id counted venue note applied.Overfill =
    disputed_last id counted.unbooked (record
    { venue = venue; note = note; answer = applied.Overfill; entries = length counted.book.entries })
disputed_more id counted venue note applied.Stray =
    disputed_last id counted.unbooked (record
    { venue = venue; note = note; answer = applied.Stray; entries = length counted.book.entries })

pub disputed_given : (id : LegIdParts) (counted after : CountedParts) (venue : ℕ) (note : Note) (answer : Applied)
    → answer ≡ answer_to counted.book venue note
    → after ≡ after_given counted venue note (answer_to counted.book venue note)
    → disputed id after.unbooked ≡ disputed id counted.unbooked + disputed_by id note answer
disputed_given id counted after venue note answer answered is =
    ap (λ (c : CountedParts). disputed id c.unbooked) is
    ∙ (disputed_more id counted venue note (answer_to counted.book venue note)
    ∙ ap (λ a. disputed id counted.unbooked + disputed_by id note a) (sym answered))

-- ---- a withdrawal

withdrawn_count : (book : BookParts) (id : LegIdParts)
    → notes_written (withdraw book id).1.entries ≡ notes_written book.entries
withdrawn_count book id = elim (withdraw_outcome book id) [
  | inl writes ↦
      (let more = notes-append book.entries (Withdrawn id ∷ []) in
      ap (λ (b : BookParts). notes_written b.entries) writes ∙ omega (arith, more))
  | inr same ↦ ap (λ (b : BookParts). notes_written b.entries) same
]

of_venue_count : (b : Bool) (book : BookParts) (id : LegIdParts)
    → (let r : BookAnswer = if b then withdraw book id else (Err AlreadyMoved, book) in
    notes_written r.1.entries ≡ notes_written book.entries)
of_venue_count true book id = withdrawn_count book id
of_venue_count false book id = refl

of_venue_kept : (b : Bool) (book : BookParts) (id : LegIdParts) (worth : LegIdParts → Worth)
    (fill : LegIdParts → List ℕ → Option FillParts) → AreKept book worth fill
    → (let r : BookAnswer = if b then withdraw book id else (Err AlreadyMoved, book) in AreKept r.1 worth fill)
of_venue_kept true book id worth fill kept = kept_withdrawn book id worth fill kept
of_venue_kept false book id worth fill kept = kept

pub count_asked : (venue : ℕ) (book after : BookParts) (id : LegIdParts) (result : Result (Unit {0}) BookFault)
    → (let r : BookAnswer = (result, after) in r ≡ withdraw_of venue book id)
    → notes_written after.entries ≡ notes_written book.entries
count_asked venue book after id result is = ap (λ (r : BookAnswer). notes_written r.1.entries) is
    ∙ of_venue_count (is_of_venue venue (order_of id book.entries)) book id

pub kept_asked : (venue : ℕ) (book after : BookParts) (id : LegIdParts) (result : Result (Unit {0}) BookFault)
    (worth : LegIdParts → Worth) (fill : LegIdParts → List ℕ → Option FillParts)
    → (let r : BookAnswer = (result, after) in r ≡ withdraw_of venue book id) → AreKept book worth fill
    → AreKept after worth fill
kept_asked venue book after id result worth fill is kept =
    subst (λ (r : BookAnswer). AreKept r.1 worth fill) (sym is)
    (of_venue_kept (is_of_venue venue (order_of id book.entries)) book id worth fill kept)

-- ---- sweeps that are opened

count_again : (book : BookParts) (sweep : Sweep)
    → notes_written (again book (Opened sweep)).entries ≡ notes_written book.entries
count_again book sweep = elim (open_outcome book (next_sweep book) sweep.legs) [
  | inl writes ↦
      (let opens : Sweep = record { legs = sweep.legs } in
      let more = notes-append book.entries (Opened opens ∷ []) in
      ap (λ (b : BookParts). notes_written b.entries) writes ∙ omega (arith, more))
  | inr same ↦ ap (λ (b : BookParts). notes_written b.entries) same
]

count_each : (book : BookParts) (sweeps : List Sweep)
    → notes_written (replay book (map (λ sweep. Opened sweep) sweeps)).entries ≡ notes_written book.entries
count_each book [] = refl
count_each book (sweep ∷ sweeps) = count_each (again book (Opened sweep)) sweeps ∙ count_again book sweep

kept_each : (book : BookParts) (sweeps : List Sweep) (worth : LegIdParts → Worth)
    (fill : LegIdParts → List ℕ → Option FillParts) → AreKept book worth fill
    → AreKept (replay book (map (λ sweep. Opened sweep) sweeps)) worth fill
kept_each book [] worth fill kept = kept
kept_each book (sweep ∷ sweeps) worth fill kept =
    kept_each (again book (Opened sweep)) sweeps worth fill
    (kept_opened book (next_sweep book) sweep.legs worth fill kept)

pub count_opened : (book after : BookParts) → OnlyOpens book after
    → notes_written after.entries ≡ notes_written book.entries
count_opened book after opens = ap (λ (b : BookParts). notes_written b.entries) opens.opens
    ∙ count_each book opens.sweeps

pub kept_lent : (book after : BookParts) (worth : LegIdParts → Worth)
    (fill : LegIdParts → List ℕ → Option FillParts) → OnlyOpens book after → AreKept book worth fill
    → AreKept after worth fill
kept_lent book after worth fill opens kept =
    subst (λ (b : BookParts). AreKept b worth fill) (sym opens.opens) (kept_each book opens.sweeps worth fill kept)

-- ---- words that are taken back

pub taken_back : {A : Type 0} (xs : List A) (x : A) → take (length xs) (xs ++ x ∷ []) ≡ xs
taken_back xs x = take-append-le (length xs) xs (x ∷ []) (omega arith) ∙ take-length xs
