-- In a book that its history leads to, the notes on a leg are those of its venue on it. So the notes of the venue that
-- moved rule its shares.
use Rattle.std.proofs.Common.{◌≡◌, ℕ, Bool, true, false, List, [], ◌∷◌, ◌++◌, filter, map, Option, Some, None, inl, inr, refl, ap, sym, ◌∙◌, subst, if◌then◌else◌}
use Rattle.std.specs.Prelude.{◌==◌, ◌||◌}
use Rattle.std.proofs.lemmas.Bool.{cases_Bool, eqb-true, eq-eqb, or_right}
use Rattle.std.proofs.lemmas.List.{append-nil}
use Rattle.std.proofs.lemmas.List.Elements.{filter-append}
use Rattle.std.proofs.lemmas.Option.{same_Some}
use Rattle.leg.specs.LegId.{LegIdParts}
use Rattle.leg.specs.declared.sweep.Routed.{Routed}
use Rattle.leg.specs.declared.sweep.Sweep.{Sweep}
use Rattle.dialect.specs.declared.note.Note.{Note}
use Rattle.dialect.specs.declared.note.Note.TheVariants as note
use Rattle.share_ledger.specs.declared.applied.Applied.{Applied}
use Rattle.share_ledger.specs.declared.applied.Applied.TheVariants as applied
use Rattle.share_ledger.specs.declared.book_entry.BookEntry.{BookEntry}
use Rattle.share_ledger.specs.declared.book_entry.BookEntry.TheVariants.{Opened, Withdrawn, Moved}
use Rattle.share_ledger.specs.Entries.{order_of, is_same_leg, is_withdrawn, is_about, notes_on, is_booked}
use Rattle.share_ledger.specs.Shares.{move_of, parts_of}
use Rattle.share_ledger.specs.Book.{BookParts, new_book, written, answer_to, after_note, next_sweep, again, replay}
use Rattle.share_ledger.proofs.OneMore.{notes_on-append, notes_on-opened, notes_on-withdrawn, is_same_leg-true, order_of-opened, order_of-withdrawn, order_of-moved}
use Rattle.share_ledger.proofs.Outcomes.{open_outcome, withdraw_outcome}
use Rattle.share_ledger.proofs.Sound.{IsSound, let_in, sound-new, sound-again}
use Rattle.share_ledger.proofs.Adding.{leg_adds_up}
use Rattle.exec_collector.specs.Resolved.{Replays}
use Rattle.exec_collector.proofs.Bounded.{sound_book}
use Rattle.exec_collector.specs.declared.booking.Booking.{Booking}
use Rattle.exec_collector.specs.declared.booking.Booking.TheVariants.{Given, Asked}
use Rattle.exec_collector.specs.Booked.{moved_of, moved_among, withdrawn_among, asked_of, is_of_venue, withdrawn_ids, withdrawn_of, IsAsBooked}
use Rattle.exec_collector.proofs.Booked.{moved-append, is_withdrawn-ids}
use Rattle.worker_line.specs.Shares.{is_among, HasParts}

-- where no note is on a leg, none of a venue is
none_by : (about here : Bool) (id : LegIdParts) (note : Note) (xs ys : List Note) → is_about id note ≡ about
    → (xs ≡ [] → filter (is_about id) ys ≡ []) → (if about then note ∷ xs else xs) ≡ []
    → filter (is_about id) (if here then note ∷ ys else ys) ≡ []
none_by true here id note xs ys is rest none = absurd cc
none_by false true id note xs ys is rest none =
    ap (λ b. if b then note ∷ filter (is_about id) ys else filter (is_about id) ys) is ∙ rest none
none_by false false id note xs ys is rest none = rest none

none_of : (venue : ℕ) (id : LegIdParts) (entries : List BookEntry) → notes_on id entries ≡ []
    → filter (is_about id) (moved_of venue entries) ≡ []
none_of venue id [] none = refl
none_of venue id (Opened sweep ∷ entries) none = none_of venue id entries none
none_of venue id (Withdrawn leg ∷ entries) none = none_of venue id entries none
none_of venue id (Moved from note ∷ entries) none =
    none_by (is_about id note) (from == venue) id note (notes_on id entries) (moved_of venue entries) refl
    (none_of venue id entries) none

-- the notes on a leg are those of this venue on it
abbrev IsByVenue : ℕ → LegIdParts → List BookEntry → Type 0
IsByVenue venue id entries = notes_on id entries ≡ filter (is_about id) (moved_of venue entries)

same_by_venue : (venue : ℕ) (id : LegIdParts) (entries more : List BookEntry) → moved_of venue more ≡ []
    → notes_on id (entries ++ more) ≡ notes_on id entries → IsByVenue venue id entries
    → IsByVenue venue id (entries ++ more)
same_by_venue venue id entries more none same is =
    let moved = moved-append venue entries more ∙ ap (λ l. moved_of venue entries ++ l) none
    ∙ append-nil (moved_of venue entries) in
    same ∙ is ∙ sym (ap (filter (is_about id)) moved)

note_by_venue : (about here : Bool) (id : LegIdParts) (note : Note) → is_about id note ≡ about
    → (about ≡ true → here ≡ true)
    → (if about then note ∷ [] else []) ≡ filter (is_about id) (if here then note ∷ [] else [])
note_by_venue true true id note is it = sym (ap (λ b. if b then note ∷ [] else []) is)
note_by_venue true false id note is it = absurd (let e = it refl in cc)
note_by_venue false true id note is it = sym (ap (λ b. if b then note ∷ [] else []) is)
note_by_venue false false id note is it = refl

moved_by_venue : (venue from : ℕ) (note : Note) (id : LegIdParts) (entries : List BookEntry)
    → (is_about id note ≡ true → (from == venue) ≡ true) → IsByVenue venue id entries
    → IsByVenue venue id (entries ++ Moved from note ∷ [])
moved_by_venue venue from note id entries of is =
    let last = note_by_venue (is_about id note) (from == venue) id note refl of in
    let more = moved_of venue (Moved from note ∷ []) in
    notes_on-append id entries (Moved from note ∷ [])
    ∙ ap (λ l. l ++ notes_on id (Moved from note ∷ [])) is
    ∙ ap (λ l. filter (is_about id) (moved_of venue entries) ++ l) last
    ∙ sym (filter-append (is_about id) (moved_of venue entries) more)
    ∙ sym (ap (filter (is_about id)) (moved-append venue entries (Moved from note ∷ [])))

-- so it is of each leg and its venue
record AreByVenue (book : BookParts) : Type 0 where
  pub each : (id : LegIdParts) (routed : Routed) → order_of id book.entries ≡ Some routed
      → IsByVenue routed.venue id book.entries

by_venue-new : (venues : ℕ) → AreByVenue (new_book venues)
by_venue-new venues = record { each = λ id routed e. refl }

opened_leg : (book : BookParts) (sweep : Sweep) → IsSound book → AreByVenue book → (id : LegIdParts) (routed : Routed)
    (old : Option Routed) → order_of id book.entries ≡ old
    → order_of id (book.entries ++ Opened sweep ∷ []) ≡ Some routed → IsByVenue routed.venue id book.entries
opened_leg book sweep sound are id routed (Some before) there now =
    let stays = order_of-opened id book.entries sweep before there in
    let same = same_Some before routed (sym stays ∙ now) in
    subst (λ (r : Routed). IsByVenue r.venue id book.entries) same (are.each id before there)
opened_leg book sweep sound are id routed None there now =
    let none = (sound.untouched id there).1 in none ∙ sym (none_of routed.venue id book.entries none)

by_venue-opened : (book : BookParts) (sweep : Sweep) → IsSound book → AreByVenue book
    → AreByVenue (written (Opened sweep) book)
by_venue-opened book sweep sound are =
    record {
      each = λ id routed e. same_by_venue routed.venue id book.entries (Opened sweep ∷ []) refl
          (notes_on-opened id book.entries sweep)
          (opened_leg book sweep sound are id routed (order_of id book.entries) refl e);
    }

by_venue-withdrawn : (book : BookParts) (leg : LegIdParts) → AreByVenue book → AreByVenue (written (Withdrawn leg) book)
by_venue-withdrawn book leg are =
    record {
      each = λ id routed e. same_by_venue routed.venue id book.entries (Withdrawn leg ∷ []) refl
          (notes_on-withdrawn id leg book.entries)
          (are.each id routed (sym (order_of-withdrawn id leg book.entries) ∙ e));
    }

-- a note that moves is of the venue of the leg that it is about
module _ (book : BookParts) (from : ℕ) (note : Note) (leg : LegIdParts) (order : Routed)
    (about : (k : LegIdParts) → is_about k note ≡ is_same_leg leg k)
    (found : order_of leg book.entries ≡ Some order) (of_venue : (order.venue == from) ≡ true) where
  of_leg : (id : LegIdParts) (routed : Routed) → order_of id book.entries ≡ Some routed → is_about id note ≡ true
      → (from == routed.venue) ≡ true
  of_leg id routed there is =
      let it = is_same_leg-true leg id (sym (about id) ∙ is) in
      let same = same_Some order routed (sym found ∙ (ap (λ l. order_of l book.entries) it ∙ there)) in
      eq-eqb from routed.venue (sym (eqb-true order.venue from of_venue) ∙ ap (λ (r : Routed). r.venue) same)

  by_venue-moved : AreByVenue book → AreByVenue (written (Moved from note) book)
  by_venue-moved are =
      record {
        each = λ id routed e.
            (let there : order_of id book.entries ≡ Some routed = sym (order_of-moved id book.entries from note) ∙ e in
            moved_by_venue routed.venue from note id book.entries (of_leg id routed there) (are.each id routed there));
      }

by_venue-let_in : (book : BookParts) (venue : ℕ) (note : Note) → answer_to book venue note ≡ applied.Moved
    → AreByVenue book → AreByVenue (written (Moved venue note) book)
by_venue-let_in book venue (note.Report report) e are =
    let it = let_in book venue (is_booked venue report.exec book.entries) (move_of (note.Report report)) report.id
    (order_of report.id book.entries) refl e in
    by_venue-moved book venue (note.Report report) report.id it.order (λ k. refl) it.found it.of_venue are
by_venue-let_in book venue (note.Refused id) e are =
    let it = let_in book venue false (move_of (note.Refused id)) id (order_of id book.entries) refl e in
    by_venue-moved book venue (note.Refused id) id it.order (λ k. refl) it.found it.of_venue are
by_venue-let_in book venue (note.Unread fault) e are = cc

by_venue-after_note : (book : BookParts) (venue : ℕ) (note : Note) (answer : Applied)
    → answer_to book venue note ≡ answer → AreByVenue book → AreByVenue (after_note book venue note answer)
by_venue-after_note book venue note applied.Moved e are = by_venue-let_in book venue note e are
by_venue-after_note book venue note applied.Duplicate e are = are
by_venue-after_note book venue note applied.Overfill e are = are
by_venue-after_note book venue note applied.Stray e are = are

by_venue-again : (book : BookParts) (entry : BookEntry) → IsSound book → AreByVenue book → AreByVenue (again book entry)
by_venue-again book (Opened sweep) sound are =
    elim (open_outcome book (next_sweep book) sweep.legs) [
      | inl writes ↦ subst AreByVenue (sym writes) (by_venue-opened book (record { legs = sweep.legs }) sound are)
      | inr same ↦ subst AreByVenue (sym same) are
    ]
by_venue-again book (Withdrawn id) sound are =
    elim (withdraw_outcome book id) [
      | inl writes ↦ subst AreByVenue (sym writes) (by_venue-withdrawn book id are)
      | inr same ↦ subst AreByVenue (sym same) are
    ]
by_venue-again book (Moved venue note) sound are =
    by_venue-after_note book venue note (answer_to book venue note) refl are

by_venue-replay : (book : BookParts) (entries : List BookEntry) → IsSound book → AreByVenue book
    → AreByVenue (replay book entries)
by_venue-replay book [] sound are = are
by_venue-replay book (entry ∷ entries) sound are =
    by_venue-replay (again book entry) entries (sound-again book entry sound) (by_venue-again book entry sound are)

pub notes_by_venue : (book : BookParts) → Replays book → (id : LegIdParts) (routed : Routed)
    → order_of id book.entries ≡ Some routed
    → notes_on id book.entries ≡ filter (is_about id) (moved_of routed.venue book.entries)
notes_by_venue book replays =
    (subst AreByVenue replays
    (by_venue-replay (new_book book.venues) book.entries (sound-new book.venues) (by_venue-new book.venues))).each

unlike_first : (keeps : Bool) (leg id : LegIdParts) (ids : List LegIdParts) → is_same_leg leg id ≡ false
    → is_among id (if keeps then leg ∷ ids else ids) ≡ is_among id ids
unlike_first true leg id ids other = ap (λ b. b || is_among id ids) other
unlike_first false leg id ids other = refl

-- where a leg is of a venue, it is among the venue's withdrawn ones if it is among all of them
among_kept : (keeps : LegIdParts → Bool) (id : LegIdParts) → keeps id ≡ true → (ids : List LegIdParts)
    → is_among id ids ≡ is_among id (filter keeps ids)
among_kept keeps id here [] = refl
among_kept keeps id here (leg ∷ ids) =
    elim (cases_Bool (is_same_leg leg id)) [
      | inl same ↦
          (let this : keeps leg ≡ true = ap keeps (is_same_leg-true leg id same) ∙ here in
          ap (λ b. b || is_among id ids) same
          ∙ sym (ap (λ b. is_among id (if b then leg ∷ filter keeps ids else filter keeps ids)) this
          ∙ ap (λ b. b || is_among id (filter keeps ids)) same))
      | inr other ↦
          ap (λ b. b || is_among id ids) other
          ∙ (among_kept keeps id here ids ∙ sym (unlike_first (keeps leg) leg id (filter keeps ids) other))
    ]

pub withdrawn_by_venue : (book : BookParts) (venue : ℕ) (id : LegIdParts) (routed : Routed)
    → order_of id book.entries ≡ Some routed → routed.venue ≡ venue
    → is_withdrawn id book.entries ≡ is_among id (withdrawn_of venue book.entries)
withdrawn_by_venue book venue id routed found of_venue =
    is_withdrawn-ids id book.entries
    ∙ among_kept (λ leg. is_of_venue venue (order_of leg book.entries)) id
    (ap (is_of_venue venue) found ∙ eq-eqb routed.venue venue of_venue) (withdrawn_ids book.entries)

-- by what the history has of a venue each of its legs is ruled
pub ruled_by : (book : BookParts) → Replays book → (venue : ℕ) (bookings : List Booking) → IsAsBooked venue book bookings
    → (id : LegIdParts) (routed : Routed) → order_of id book.entries ≡ Some routed → routed.venue ≡ venue
    → HasParts book bookings id routed
ruled_by book replays venue bookings is id routed found of_venue =
    let notes = notes_by_venue book replays id routed found
    ∙ ap (λ v. filter (is_about id) (moved_of v book.entries)) of_venue ∙ ap (filter (is_about id)) is.moved in
    let gone = withdrawn_by_venue book venue id routed found of_venue ∙ ap (is_among id) is.withdrawn in
    record {
      withdrawn = gone;
      parts = ap (λ l. parts_of routed.terms.shares (is_withdrawn id book.entries) (map move_of l)) notes
          ∙ ap (λ b. parts_of routed.terms.shares b (map move_of (filter (is_about id) (moved_among bookings)))) gone;
      adds_up = leg_adds_up book id routed (sound_book book replays) found;
    }

-- a leg that the book withdrew was asked for
also_then : (b x y : Bool) → (x ≡ true → y ≡ true) → (b || x) ≡ true → (b || y) ≡ true
also_then true x y more is = refl
also_then false x y more is = more is

pub among_asked : (id : LegIdParts) (bookings : List Booking) → is_among id (withdrawn_among bookings) ≡ true
    → is_among id (asked_of bookings) ≡ true
among_asked id [] is = is
among_asked id (Given note answer entries ∷ rest) is = among_asked id rest is
among_asked id (Asked leg true entries ∷ rest) is =
    also_then (is_same_leg leg id) (is_among id (withdrawn_among rest)) (is_among id (asked_of rest))
    (among_asked id rest) is
among_asked id (Asked leg false entries ∷ rest) is = or_right (is_same_leg leg id) _ (among_asked id rest is)

pub only_asked : (book : BookParts) (venue : ℕ) (bookings : List Booking) (asked : List LegIdParts)
    → IsAsBooked venue book bookings → asked_of bookings ≡ asked → (id : LegIdParts) (routed : Routed)
    → order_of id book.entries ≡ Some routed → routed.venue ≡ venue → is_withdrawn id book.entries ≡ true
    → is_among id asked ≡ true
only_asked book venue bookings asked is legs id routed found of_venue gone =
    ap (is_among id) (sym legs)
    ∙ among_asked id bookings
    (ap (is_among id) (sym is.withdrawn) ∙ (sym (withdrawn_by_venue book venue id routed found of_venue) ∙ gone))
