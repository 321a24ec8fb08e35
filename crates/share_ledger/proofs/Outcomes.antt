-- A call writes its entry, or leaves the book as it was.
use Rattle.std.proofs.Common.{◌≡◌, ℕ, ◌⊎◌, inl, inr, Bool, true, false, List, [], ◌∷◌, ◌++◌, map, Option, Some, None, Result, Ok, Err, refl, ap, sym, ◌∙◌, if◌then◌else◌}
use Rattle.std.specs.Prelude.{◌==◌}
use Rattle.leg.specs.LegId.{LegIdParts}
use Rattle.leg.specs.declared.sweep.Routed.{Routed}
use Rattle.dialect.specs.declared.note.Note.{Note}
use Rattle.share_ledger.specs.declared.applied.Applied.{Applied}
use Rattle.share_ledger.specs.declared.applied.Applied.TheVariants as applied
use Rattle.share_ledger.specs.declared.book_entry.BookEntry.{BookEntry}
use Rattle.share_ledger.specs.declared.book_entry.BookEntry.TheVariants.{Opened, Withdrawn, Moved}
use Rattle.share_ledger.specs.declared.book_fault.BookFault.{BookFault}
use Rattle.share_ledger.specs.declared.book_fault.BookFault.TheVariants.{NotNext, AlreadyMoved, Unfit}
use Rattle.share_ledger.specs.Entries.{order_of, is_same_leg, is_withdrawn, is_about, notes_on}
use Rattle.share_ledger.specs.Shares.{move_of, parts_of}
use Rattle.share_ledger.specs.Book.{BookParts, BookAnswer, new_book, written, leg_parts, answer_to, after_note, apply, is_fit, next_sweep, open_sweep, withdraw, withdraw_order, again, replay}
use Rattle.share_ledger.proofs.OneMore.{is_withdrawn-opened, notes_on-opened, is_withdrawn-other, notes_on-withdrawn, is_withdrawn-moved, notes_on-other}

-- the book after a call is the one with this entry, or the one before
abbrev pub IsWrittenOrSame : BookEntry → BookParts → BookParts → Type 0
IsWrittenOrSame entry book after = (after ≡ written entry book) ⊎ (after ≡ book)

open_step : (is_next fits : Bool) (book : BookParts) (legs : List Routed)
    → (let r : BookAnswer = if is_next
    then (if fits then (Ok tt, written (Opened (record { legs = legs })) book) else (Err Unfit, book))
    else (Err NotNext, book) in IsWrittenOrSame (Opened (record { legs = legs })) book r.1)
open_step true true book legs = inl refl
open_step true false book legs = inr refl
open_step false fits book legs = inr refl

pub open_outcome : (book : BookParts) (number : ℕ) (legs : List Routed)
    → IsWrittenOrSame (Opened (record { legs = legs })) book (open_sweep book number legs).1
open_outcome book number legs = open_step (number == next_sweep book) (is_fit book legs) book legs

withdraw_step : (b : Bool) (book : BookParts) (id : LegIdParts)
    → (let r : BookAnswer = if b then (Ok tt, written (Withdrawn id) book) else (Err AlreadyMoved, book) in
    IsWrittenOrSame (Withdrawn id) book r.1)
withdraw_step true book id = inl refl
withdraw_step false book id = inr refl

withdraw_order_outcome : (book : BookParts) (id : LegIdParts) (order : Option Routed)
    → IsWrittenOrSame (Withdrawn id) book (withdraw_order book id order).1
withdraw_order_outcome book id None = inr refl
withdraw_order_outcome book id (Some routed) = withdraw_step
    ((leg_parts id routed.terms.shares book).still_open == routed.terms.shares) book id

pub withdraw_outcome : (book : BookParts) (id : LegIdParts) → IsWrittenOrSame (Withdrawn id) book (withdraw book id).1
withdraw_outcome book id = withdraw_order_outcome book id (order_of id book.entries)

note_outcome : (book : BookParts) (venue : ℕ) (note : Note) (answer : Applied)
    → IsWrittenOrSame (Moved venue note) book (after_note book venue note answer)
note_outcome book venue note applied.Moved = inl refl
note_outcome book venue note applied.Duplicate = inr refl
note_outcome book venue note applied.Overfill = inr refl
note_outcome book venue note applied.Stray = inr refl

pub apply_outcome : (book : BookParts) (venue : ℕ) (note : Note)
    → IsWrittenOrSame (Moved venue note) book (apply book venue note).1
apply_outcome book venue note = note_outcome book venue note (answer_to book venue note)

-- what is answered to a note
pub answered : (a b : Applied) → (let r : Result Applied BookFault = Ok a in r ≡ Ok b) → a ≡ b
answered a b e = cc

pub again_outcome : (book : BookParts) (entry : BookEntry) → IsWrittenOrSame entry book (again book entry)
again_outcome book (Opened sweep) = open_outcome book (next_sweep book) sweep.legs
again_outcome book (Withdrawn id) = withdraw_outcome book id
again_outcome book (Moved venue note) = apply_outcome book venue note

-- the history of a book leads to it

pub replay-append : (book : BookParts) (xs ys : List BookEntry) → replay book (xs ++ ys) ≡ replay (replay book xs) ys
replay-append book [] ys = refl
replay-append book (entry ∷ xs) ys = replay-append (again book entry) xs ys

abbrev pub IsReplayed : ℕ → BookParts → Type 0
IsReplayed venues book = replay (new_book venues) book.entries ≡ book

pub replayed-again : (venues : ℕ) (book : BookParts) (entry : BookEntry) → IsReplayed venues book
    → IsReplayed venues (again book entry)
replayed-again venues book entry replayed =
    elim (again_outcome book entry) [
      | inl writes ↦
          ap (λ b. replay (new_book venues) b.entries) writes
          ∙ (replay-append (new_book venues) book.entries (entry ∷ []) ∙ ap (λ b. again b entry) replayed)
      | inr same ↦ ap (λ b. replay (new_book venues) b.entries) same ∙ (replayed ∙ sym same)
    ]

replayed-replay : (venues : ℕ) (book : BookParts) (entries : List BookEntry) → IsReplayed venues book
    → IsReplayed venues (replay book entries)
replayed-replay venues book [] replayed = replayed
replayed-replay venues book (entry ∷ entries) replayed = replayed-replay venues (again book entry) entries
    (replayed-again venues book entry replayed)

pub history_replays : (venues : ℕ) (entries : List BookEntry)
    → replay (new_book venues) (replay (new_book venues) entries).entries ≡ replay (new_book venues) entries
history_replays venues entries = replayed-replay venues (new_book venues) entries refl

-- a call changes the shares of its own leg alone

pub same_parts : (shares : ℕ) (gone gone' : Bool) (notes notes' : List Note) → gone' ≡ gone → notes' ≡ notes
    → parts_of shares gone' (map move_of notes') ≡ parts_of shares gone (map move_of notes)
same_parts shares gone gone' notes notes' eg en = ap (λ g. parts_of shares g (map move_of notes')) eg
    ∙ ap (λ ns. parts_of shares gone (map move_of ns)) en

pub others-open_sweep : (book : BookParts) (number : ℕ) (legs : List Routed) (id : LegIdParts) (shares : ℕ)
    → leg_parts id shares (open_sweep book number legs).1 ≡ leg_parts id shares book
others-open_sweep book number legs id shares =
    elim (open_outcome book number legs) [
      | inl writes ↦
          ap (leg_parts id shares) writes
          ∙ same_parts shares (is_withdrawn id book.entries) _ (notes_on id book.entries) _
          (is_withdrawn-opened id book.entries (record { legs = legs }))
          (notes_on-opened id book.entries (record { legs = legs }))
      | inr same ↦ ap (leg_parts id shares) same
    ]

pub others-withdraw : (book : BookParts) (id other : LegIdParts) (shares : ℕ) → is_same_leg id other ≡ false
    → leg_parts other shares (withdraw book id).1 ≡ leg_parts other shares book
others-withdraw book id other shares differs =
    elim (withdraw_outcome book id) [
      | inl writes ↦
          ap (leg_parts other shares) writes
          ∙ same_parts shares (is_withdrawn other book.entries) _ (notes_on other book.entries) _
          (is_withdrawn-other other id book.entries differs) (notes_on-withdrawn other id book.entries)
      | inr same ↦ ap (leg_parts other shares) same
    ]

pub others-apply : (book : BookParts) (venue : ℕ) (note : Note) (other : LegIdParts) (shares : ℕ)
    → is_about other note ≡ false → leg_parts other shares (apply book venue note).1 ≡ leg_parts other shares book
others-apply book venue note other shares differs =
    elim (apply_outcome book venue note) [
      | inl writes ↦
          ap (leg_parts other shares) writes
          ∙ same_parts shares (is_withdrawn other book.entries) _ (notes_on other book.entries) _
          (is_withdrawn-moved other book.entries venue note) (notes_on-other other book.entries venue note differs)
      | inr same ↦ ap (leg_parts other shares) same
    ]
