-- The notes of a book by their venue and their leg; reports by their ids; and what the book answers to a note.
use Rattle.std.proofs.Common.{◌≡◌, ◌==◌, ◌≤◌, ◌+◌, ◌||◌, ◌&&◌, ℕ, zero, suc, Bool, true, false, List, [], ◌∷◌, ◌++◌, length, take, filter, Option, Some, refl, sym, ap, subst, ◌∙◌, if◌then◌else◌, arith}
use Rattle.std.specs.Prelude.{slice_get, bytes_eq}
use Rattle.std.specs.List.{Contains, list_any}
use Rattle.std.proofs.lemmas.Bool.{eq-eqb}
use Rattle.std.proofs.lemmas.List.Elements.{Contains-append_left, Contains-append_right, Contains-push}
use Rattle.std.proofs.lemmas.Option.{same_Some, slice_get_within}
use Rattle.leg.specs.LegId.{LegIdParts}
use Rattle.leg.specs.declared.sweep.Routed.{Routed}
use Rattle.dialect.specs.declared.note.Note.{Note}
use Rattle.dialect.specs.declared.note.Note.TheVariants as note
use Rattle.dialect.specs.declared.report.Report.{Report}
use Rattle.exchange_core.specs.declared.sent_record.SentRecord.{SentRecord}
use Rattle.exchange_core.specs.declared.sent_record.SentRecord.TheVariants.{Admin, Reported, Refused}
use Rattle.exchange_core.specs.SentRecord.{exec_id}
use Rattle.exchange_core.specs.Keeping.{AreCounted}
use Rattle.share_ledger.specs.declared.applied.Applied.{Applied}
use Rattle.share_ledger.specs.declared.applied.Applied.TheVariants as applied
use Rattle.share_ledger.specs.declared.book_entry.BookEntry.{BookEntry}
use Rattle.share_ledger.specs.declared.book_entry.BookEntry.TheVariants.{Opened, Withdrawn, Moved}
use Rattle.share_ledger.specs.Entries.{is_withdrawn, is_about, notes_on, has_exec, is_booked}
use Rattle.share_ledger.specs.Shares.{Move}
use Rattle.share_ledger.specs.Book.{BookParts, moves_on, leg_parts, move_answer, leg_answer}
use Rattle.schedule.specs.World.{reports_in}
use Rattle.schedule.proofs.Clean.{report_notes}
use Rattle.schedule.proofs.OrderMatches.{other_exec}
use Rattle.schedule.proofs.BookedNotes.{moved_from}

-- the notes of one venue on a leg are all that the book has on it, where each note on it is of that venue
notes_by : (about from_it : Bool) (id : LegIdParts) (note : Note) (xs ys : List Note) → is_about id note ≡ about
    → (about ≡ true → from_it ≡ true) → xs ≡ filter (is_about id) ys
    → (if about then note ∷ xs else xs) ≡ filter (is_about id) (if from_it then note ∷ ys else ys)
notes_by true true id note xs ys is it same =
    ap (λ l. note ∷ l) same
    ∙ sym (ap (λ b. if b then note ∷ filter (is_about id) ys else filter (is_about id) ys) is)
notes_by true false id note xs ys is it same = absurd (let e = it refl in cc)
notes_by false true id note xs ys is it same =
    same ∙ sym (ap (λ b. if b then note ∷ filter (is_about id) ys else filter (is_about id) ys) is)
notes_by false false id note xs ys is it same = same

pub notes_from : (v : ℕ) (id : LegIdParts) (entries : List BookEntry)
    → ((from : ℕ) (note : Note) → Contains entries (Moved from note) → is_about id note ≡ true → from ≡ v)
    → notes_on id entries ≡ filter (is_about id) (moved_from v entries)
notes_from v id [] of = refl
notes_from v id (Opened sweep ∷ entries) of =
    notes_from v id entries
    (λ from note there. of from note (Contains-append_right (Opened sweep ∷ []) entries (Moved from note) there))
notes_from v id (Withdrawn leg ∷ entries) of =
    notes_from v id entries
    (λ from note there. of from note (Contains-append_right (Withdrawn leg ∷ []) entries (Moved from note) there))
notes_from v id (Moved from note ∷ entries) of =
    let first = Contains-append_left (Moved from note ∷ []) entries (Moved from note)
    (Contains-push [] (Moved from note)) in
    notes_by (is_about id note) (from == v) id note (notes_on id entries) (moved_from v entries) refl
    (λ about. eq-eqb from v (of from note first about))
    (notes_from v id entries
    (λ other n there. of other n (Contains-append_right (Moved from note ∷ []) entries (Moved other n) there)))

-- a note of the book is among those of its venue
pub moved_in : (entries : List BookEntry) (v : ℕ) (note : Note) → Contains entries (Moved v note)
    → Contains (moved_from v entries) note
moved_in [] v note there = absurd (let h = there.1 in omega arith)
moved_in (Opened sweep ∷ entries) v note (zero, low, is) = absurd cc
moved_in (Opened sweep ∷ entries) v note (suc k, low, is) = moved_in entries v note (k, omega arith, is)
moved_in (Withdrawn id ∷ entries) v note (zero, low, is) = absurd cc
moved_in (Withdrawn id ∷ entries) v note (suc k, low, is) = moved_in entries v note (k, omega arith, is)
moved_in (Moved from first ∷ entries) v note (zero, low, is) =
    let venue : from ≡ v = cc in
    let same : first ≡ note = cc in
    subst (λ b. Contains (if b then first ∷ moved_from v entries else moved_from v entries) note)
    (sym (eq-eqb from v venue))
    (subst (Contains (first ∷ moved_from v entries)) same
    (Contains-append_left (first ∷ []) (moved_from v entries) first (Contains-push [] first)))
moved_in (Moved from first ∷ entries) v note (suc k, low, is) =
    more (from == v) (moved_in entries v note (k, omega arith, is))
  where
    more : (b : Bool) → Contains (moved_from v entries) note
        → Contains (if b then first ∷ moved_from v entries else moved_from v entries) note
    more true there = Contains-append_right (first ∷ []) (moved_from v entries) note there
    more false there = there

-- an id is booked where one of the venue's notes has it
booked_by : (b : Bool) (exec : List ℕ) (note : Note) (notes : List Note) (rest : Bool)
    → rest ≡ list_any (has_exec exec) notes
    → ((b && has_exec exec note) || rest) ≡ list_any (has_exec exec) (if b then note ∷ notes else notes)
booked_by true exec note notes rest same = ap (λ r. has_exec exec note || r) same
booked_by false exec note notes rest same = same

pub booked_is : (v : ℕ) (exec : List ℕ) (entries : List BookEntry)
    → is_booked v exec entries ≡ list_any (has_exec exec) (moved_from v entries)
booked_is v exec [] = refl
booked_is v exec (Opened sweep ∷ entries) = booked_is v exec entries
booked_is v exec (Withdrawn id ∷ entries) = booked_is v exec entries
booked_is v exec (Moved from note ∷ entries) =
    booked_by (from == v) exec note (moved_from v entries) (is_booked v exec entries) (booked_is v exec entries)

-- reports that were counted from one on
abbrev pub AreNumbered : ℕ → List Report → Type 0
AreNumbered count [] = Unit {0}
AreNumbered count (report ∷ reports) = (report.exec ≡ exec_id (suc count)) × AreNumbered (suc count) reports

pub numbered_reports : (count : ℕ) (own : List SentRecord) → AreCounted count own → AreNumbered count (reports_in own)
numbered_reports count [] all = tt
numbered_reports count (Admin ∷ own) all = numbered_reports count own all
numbered_reports count (Refused number ∷ own) all = numbered_reports count own all
numbered_reports count (Reported report view ∷ own) all = (all.0, numbered_reports (suc count) own all.1)

exec_at : (count k : ℕ) (reports : List Report) (report : Report) → AreNumbered count reports
    → slice_get reports k ≡ Some report → report.exec ≡ exec_id (suc (count + k))
exec_at count k [] report all there = absurd cc
exec_at count zero (first ∷ reports) report all there =
    let at : suc count ≡ suc (count + 0) = omega arith in
    ap (λ (r : Report). r.exec) (sym (same_Some first report there)) ∙ (all.0 ∙ ap exec_id at)
exec_at count (suc k) (first ∷ reports) report all there =
    let at : suc (suc count + k) ≡ suc (count + suc k) = omega arith in
    exec_at (suc count) k reports report all.1 there ∙ ap exec_id at

-- the id of a report is new among those before it
pub new_among : (count k : ℕ) (reports : List Report) (report : Report) → count + length reports ≤ 999999999
    → AreNumbered count reports → slice_get reports k ≡ Some report
    → list_any (has_exec report.exec) (report_notes (take k reports)) ≡ false
new_among count k [] report small all there = absurd cc
new_among count zero (first ∷ reports) report small all there = refl
new_among count (suc k) (first ∷ reports) report small all there =
    let low = slice_get_within reports k report there in
    let at = exec_at (suc count) k reports report all.1 there in
    let other : bytes_eq first.exec report.exec ≡ false =
    ap (λ exec. bytes_eq exec report.exec) all.0
    ∙ (ap (bytes_eq (exec_id (suc count))) at
    ∙ other_exec (suc count) (suc (suc count + k)) (omega arith) (omega arith) (λ e. omega arith)) in
    rw other (new_among (suc count) k reports report (omega arith) all.1 there)

-- a note given behind others is the next report
pub record NextReport (notes : List Note) (n : Note) (reports : List Report) : Type 0 where
  pub report : Report
  pub there : slice_get reports (length notes) ≡ Some report
  pub is : n ≡ note.Report report
  pub before : notes ≡ report_notes (take (length notes) reports)

pub next_report : (notes : List Note) (n : Note) (count : ℕ) (reports : List Report)
    → notes ++ n ∷ [] ≡ report_notes (take count reports) → NextReport notes n reports
next_report [] n zero [] same = absurd cc
next_report [] n zero (x ∷ reports) same = absurd cc
next_report [] n (suc count) [] same = absurd cc
next_report [] n (suc count) (x ∷ reports) same =
    let first : n ≡ note.Report x = cc in record { report = x; there = refl; is = first; before = refl }
next_report (y ∷ notes) n zero [] same = absurd cc
next_report (y ∷ notes) n zero (x ∷ reports) same = absurd cc
next_report (y ∷ notes) n (suc count) [] same = absurd cc
next_report (y ∷ notes) n (suc count) (x ∷ reports) same =
    let first : y ≡ note.Report x = cc in
    let more : notes ++ n ∷ [] ≡ report_notes (take count reports) = cc in
    let rest = next_report notes n count reports more in
    record {
      report = rest.report;
      there = rest.there;
      is = rest.is;
      before = ap (λ z. z ∷ notes) first ∙ ap (λ l. note.Report x ∷ l) rest.before;
    }

-- what the book answers where nothing speaks against a note
by_tests : (of_venue duplicate gone : Bool) (answer : Applied) → of_venue ≡ true → duplicate ≡ false → gone ≡ false
    → answer ≡ applied.Moved
    → (if of_venue then (if duplicate then applied.Duplicate else (if gone then applied.Stray else answer))
    else applied.Stray) ≡ applied.Moved
by_tests true false false answer at fresh there moved = moved
by_tests true false true answer at fresh there moved = absurd cc
by_tests true true gone answer at fresh there moved = absurd cc
by_tests false duplicate gone answer at fresh there moved = absurd cc

pub answer_is : (b : BookParts) (v : ℕ) (duplicate : Bool) (move : Move) (id : LegIdParts) (routed : Routed)
    (found : Option Routed) → found ≡ Some routed → routed.venue ≡ v → duplicate ≡ false
    → is_withdrawn id b.entries ≡ false
    → move_answer (leg_parts id routed.terms.shares b).still_open (moves_on id b) move ≡ applied.Moved
    → leg_answer b v duplicate move id found ≡ applied.Moved
answer_is b v duplicate move id routed found is venue fresh there moved =
    ap (leg_answer b v duplicate move id) is
    ∙ by_tests (routed.venue == v) duplicate (is_withdrawn id b.entries)
    (move_answer (leg_parts id routed.terms.shares b).still_open (moves_on id b) move)
    (eq-eqb routed.venue v venue) fresh there moved
