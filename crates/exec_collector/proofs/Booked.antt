-- What a book took of its venues, as more is written in it.
use Rattle.std.proofs.Common.{◌≡◌, ℕ, zero, suc, ◌+◌, ◌<◌, Bool, true, false, List, [], ◌∷◌, ◌++◌, length, map, Option, Some, None, Result, inl, inr, refl, ap, sym, ◌∙◌, subst, arith, if◌then◌else◌}
use Rattle.std.specs.Prelude.{◌==◌, ◌||◌, slice_get, filter}
use Rattle.std.specs.List.{list_any}
use Rattle.std.specs.Result.{is_ok}
use Rattle.std.proofs.Math.ListN.{set}
use Rattle.std.proofs.Math.Seq.{take-length}
use Rattle.std.proofs.lemmas.Bool.{cases_Bool, eqb-true, eq-eqb, or_right}
use Rattle.std.proofs.lemmas.List.{append-nil, append_assoc, length-append, take-append-le}
use Rattle.std.proofs.lemmas.List.Elements.{filter-append}
use Rattle.leg.specs.LegId.{LegIdParts}
use Rattle.leg.specs.declared.sweep.Routed.{Routed}
use Rattle.leg.specs.declared.sweep.Sweep.{Sweep}
use Rattle.dialect.specs.declared.note.Note.{Note}
use Rattle.share_ledger.specs.declared.applied.Applied.{Applied}
use Rattle.share_ledger.specs.declared.applied.Applied.TheVariants as applied
use Rattle.share_ledger.specs.declared.book_entry.BookEntry.{BookEntry}
use Rattle.share_ledger.specs.declared.book_entry.BookEntry.TheVariants.{Opened, Withdrawn, Moved}
use Rattle.share_ledger.specs.declared.book_fault.BookFault.{BookFault}
use Rattle.share_ledger.specs.Entries.{order_of, is_same_leg, is_withdrawn}
use Rattle.share_ledger.specs.Book.{BookParts, BookAnswer, new_book, answer_to, after_note, next_sweep, again, replay}
use Rattle.share_ledger.proofs.OneMore.{order_of-opened, order_of-withdrawn, order_of-moved, is_same_leg-refl}
use Rattle.share_ledger.proofs.Outcomes.{open_outcome}
use Rattle.exec_collector.specs.declared.booking.Booking.{Booking}
use Rattle.exec_collector.specs.declared.booking.Booking.TheVariants.{Given, Asked}
use Rattle.exec_collector.specs.declared.venue_bookings.VenueBookings.{VenueBookings}
use Rattle.exec_collector.specs.Resolved.{Replays, OnlyOpens}
use Rattle.exec_collector.specs.Booked.{moved_of, is_of_venue, withdrawn_ids, withdrawn_of, withdraw_of, moved_among, withdrawn_among, has_moved, when_it_had, entries_before, IsRuled, IsAsBooked, IsAnswered, AreAnswered, AreBooked, notes_of, asked_of}
use Rattle.exec_collector.specs.Sides.{AreWritten, IsOneMore}
use Rattle.exec_collector.proofs.Asking.{asked_cases}
use Rattle.exec_collector.proofs.Bounded.{sound_book}
use Rattle.exec_collector.proofs.Counts.{opened_one}

-- ---- one behind others

one_more : {A : Type 0} (b : Bool) (x : A) (xs ys : List A)
    → (if b then x ∷ (xs ++ ys) else xs ++ ys) ≡ (if b then x ∷ xs else xs) ++ ys
one_more true x xs ys = refl
one_more false x xs ys = refl

pub moved-append : (venue : ℕ) (xs ys : List BookEntry)
    → moved_of venue (xs ++ ys) ≡ moved_of venue xs ++ moved_of venue ys
moved-append venue [] ys = refl
moved-append venue (Opened sweep ∷ xs) ys = moved-append venue xs ys
moved-append venue (Withdrawn id ∷ xs) ys = moved-append venue xs ys
moved-append venue (Moved from note ∷ xs) ys =
    ap (λ l. if from == venue then note ∷ l else l) (moved-append venue xs ys)
    ∙ one_more (from == venue) note (moved_of venue xs) (moved_of venue ys)

ids-append : (xs ys : List BookEntry) → withdrawn_ids (xs ++ ys) ≡ withdrawn_ids xs ++ withdrawn_ids ys
ids-append [] ys = refl
ids-append (Opened sweep ∷ xs) ys = ids-append xs ys
ids-append (Withdrawn id ∷ xs) ys = ap (λ l. id ∷ l) (ids-append xs ys)
ids-append (Moved from note ∷ xs) ys = ids-append xs ys

pub among-append : (xs ys : List Booking) → moved_among (xs ++ ys) ≡ moved_among xs ++ moved_among ys
among-append [] ys = refl
among-append (Given note answer entries ∷ xs) ys =
    ap (λ l. if has_moved answer then note ∷ l else l) (among-append xs ys)
    ∙ one_more (has_moved answer) note (moved_among xs) (moved_among ys)
among-append (Asked id withdrawn entries ∷ xs) ys = among-append xs ys

pub gone-append : (xs ys : List Booking) → withdrawn_among (xs ++ ys) ≡ withdrawn_among xs ++ withdrawn_among ys
gone-append [] ys = refl
gone-append (Given note answer entries ∷ xs) ys = gone-append xs ys
gone-append (Asked id withdrawn entries ∷ xs) ys =
    ap (λ l. if withdrawn then id ∷ l else l) (gone-append xs ys)
    ∙ one_more withdrawn id (withdrawn_among xs) (withdrawn_among ys)

pub notes-append : (xs ys : List Booking) → notes_of (xs ++ ys) ≡ notes_of xs ++ notes_of ys
notes-append [] ys = refl
notes-append (Given note answer entries ∷ xs) ys = ap (λ l. note ∷ l) (notes-append xs ys)
notes-append (Asked id withdrawn entries ∷ xs) ys = notes-append xs ys

pub asked-append : (xs ys : List Booking) → asked_of (xs ++ ys) ≡ asked_of xs ++ asked_of ys
asked-append [] ys = refl
asked-append (Given note answer entries ∷ xs) ys = asked-append xs ys
asked-append (Asked id withdrawn entries ∷ xs) ys = ap (λ l. id ∷ l) (asked-append xs ys)

-- ---- the legs of a venue that are withdrawn

filter_same : (p q : LegIdParts → Bool) (ids : List LegIdParts)
    → ((id : LegIdParts) → list_any (λ leg. is_same_leg leg id) ids ≡ true → p id ≡ q id) → filter p ids ≡ filter q ids
filter_same p q [] same = refl
filter_same p q (id ∷ ids) same =
    let here : (is_same_leg id id || list_any (λ leg. is_same_leg leg id) ids) ≡ true = rw (is_same_leg-refl id) refl in
    ap (λ b. if b then id ∷ filter p ids else filter p ids) (same id here)
    ∙ ap (λ l. if q id then id ∷ l else l)
    (filter_same p q ids (λ other there. same other (or_right (is_same_leg id other) _ there)))

pub is_withdrawn-ids : (id : LegIdParts) (entries : List BookEntry)
    → is_withdrawn id entries ≡ list_any (λ leg. is_same_leg leg id) (withdrawn_ids entries)
is_withdrawn-ids id [] = refl
is_withdrawn-ids id (Opened sweep ∷ entries) = is_withdrawn-ids id entries
is_withdrawn-ids id (Withdrawn leg ∷ entries) = ap (λ b. is_same_leg leg id || b) (is_withdrawn-ids id entries)
is_withdrawn-ids id (Moved from note ∷ entries) = is_withdrawn-ids id entries

-- where each leg's order is as it was, so are the venue's
same_orders : (venue : ℕ) (entries : List BookEntry) (more : List BookEntry)
    → ((id : LegIdParts) → order_of id (entries ++ more) ≡ order_of id entries)
    → withdrawn_of venue (entries ++ more)
    ≡ withdrawn_of venue entries ++ filter (λ id. is_of_venue venue (order_of id entries)) (withdrawn_ids more)
same_orders venue entries more same =
    filter_same (λ id. is_of_venue venue (order_of id (entries ++ more)))
    (λ id. is_of_venue venue (order_of id entries)) (withdrawn_ids (entries ++ more))
    (λ id there. ap (is_of_venue venue) (same id))
    ∙ (ap (filter (λ id. is_of_venue venue (order_of id entries))) (ids-append entries more)
    ∙ filter-append (λ id. is_of_venue venue (order_of id entries)) (withdrawn_ids entries) (withdrawn_ids more))

withdrawn-moved : (venue from : ℕ) (note : Note) (entries : List BookEntry)
    → withdrawn_of venue (entries ++ Moved from note ∷ []) ≡ withdrawn_of venue entries
withdrawn-moved venue from note entries =
    same_orders venue entries (Moved from note ∷ []) (λ id. order_of-moved id entries from note)
    ∙ append-nil (withdrawn_of venue entries)

withdrawn-one : (venue : ℕ) (leg : LegIdParts) (entries : List BookEntry)
    → withdrawn_of venue (entries ++ Withdrawn leg ∷ [])
    ≡ withdrawn_of venue entries ++ (if is_of_venue venue (order_of leg entries) then leg ∷ [] else [])
withdrawn-one venue leg entries =
    same_orders venue entries (Withdrawn leg ∷ []) (λ id. order_of-withdrawn id leg entries)

-- a leg that is withdrawn was opened
was_opened : (book : BookParts) → Replays book → (id : LegIdParts) (order : Option Routed)
    → order_of id book.entries ≡ order → list_any (λ leg. is_same_leg leg id) (withdrawn_ids book.entries) ≡ true
    → (sweep : Sweep) → order_of id (book.entries ++ Opened sweep ∷ []) ≡ order_of id book.entries
was_opened book replays id (Some order) is there sweep = order_of-opened id book.entries sweep order is ∙ sym is
was_opened book replays id None is there sweep =
    absurd (let never = sym ((sound_book book replays).untouched id is).0 ∙ (is_withdrawn-ids id book.entries ∙ there) in cc)

withdrawn-opened : (book : BookParts) → Replays book → (venue : ℕ) (sweep : Sweep)
    → withdrawn_of venue (book.entries ++ Opened sweep ∷ []) ≡ withdrawn_of venue book.entries
withdrawn-opened book replays venue sweep =
    ap (filter (λ id. is_of_venue venue (order_of id (book.entries ++ Opened sweep ∷ []))))
    (ids-append book.entries (Opened sweep ∷ []) ∙ append-nil (withdrawn_ids book.entries))
    ∙ filter_same (λ id. is_of_venue venue (order_of id (book.entries ++ Opened sweep ∷ [])))
    (λ id. is_of_venue venue (order_of id book.entries)) (withdrawn_ids book.entries)
    (λ id there. ap (is_of_venue venue) (was_opened book replays id (order_of id book.entries) refl there sweep))

-- ---- a book in which more is written

abbrev pub grown : BookParts → List BookEntry → BookParts
grown book more = record book { entries = book.entries ++ more }

grown-none : (book : BookParts) → grown book [] ≡ book
grown-none book = ap (λ entries. record book { entries = entries }) (append-nil book.entries)

one_answered : (venue : ℕ) (book : BookParts) (more : List BookEntry) (before : List Booking) (booking : Booking)
    → IsAnswered venue book before booking → IsAnswered venue (grown book more) before booking
one_answered venue book more before booking was =
    let within = was.within in
    let then_is : when_it_had (entries_before booking) (grown book more) ≡ when_it_had (entries_before booking) book =
    ap (λ entries. record book { entries = entries })
    (take-append-le (entries_before booking) book.entries more within) in
    let longer = length-append book.entries more in
    record {
      within = omega (arith, within, longer);
      answer = subst (λ (b : BookParts). IsRuled venue b booking) (sym then_is) was.answer;
      history = subst (λ (b : BookParts). IsAsBooked venue b before) (sym then_is) was.history;
    }

all_answered : (venue : ℕ) (book : BookParts) (more : List BookEntry) (before bookings : List Booking)
    → AreAnswered venue book before bookings → AreAnswered venue (grown book more) before bookings
all_answered venue book more before [] were = tt
all_answered venue book more before (booking ∷ rest) were = (
  one_answered venue book more before booking were.0,
  all_answered venue book more (before ++ booking ∷ []) rest were.1,
)

answered-push : (venue : ℕ) (book : BookParts) (before bookings : List Booking) (last : Booking)
    → AreAnswered venue book before bookings → IsAnswered venue book (before ++ bookings) last
    → AreAnswered venue book before (bookings ++ last ∷ [])
answered-push venue book before [] last were one =
    (subst (λ (l : List Booking). IsAnswered venue book l last) (append-nil before) one, tt)
answered-push venue book before (booking ∷ rest) last were one = (
  were.0,
  answered-push venue book (before ++ booking ∷ []) rest last were.1
      (subst (λ (l : List Booking). IsAnswered venue book l last) (sym (append_assoc before (booking ∷ []) rest)) one),
)

-- what is written is none of a venue's
pub record IsElsewhere (venue : ℕ) (book : BookParts) (more : List BookEntry) : Type 0 where
  pub moved : moved_of venue more ≡ []
  pub withdrawn : withdrawn_of venue (book.entries ++ more) ≡ withdrawn_of venue book.entries

-- then the venue's bookings stay as they are
booked-more : (venue : ℕ) (book : BookParts) (more : List BookEntry) (bookings : List Booking)
    → IsElsewhere venue book more → AreBooked venue book bookings → AreBooked venue (grown book more) bookings
booked-more venue book more bookings none were =
    record {
      answered = all_answered venue book more [] bookings were.answered;
      history = record {
        moved = moved-append venue book.entries more ∙ (ap (λ l. moved_of venue book.entries ++ l) none.moved
            ∙ (append-nil (moved_of venue book.entries) ∙ were.history.moved));
        withdrawn = none.withdrawn ∙ were.history.withdrawn;
      };
    }

-- what is written is what a booking says
pub record IsBookedAs (venue : ℕ) (book : BookParts) (more : List BookEntry) (booking : Booking) : Type 0 where
  pub now : entries_before booking ≡ length book.entries
  pub answer : IsRuled venue book booking
  pub moved : moved_of venue more ≡ moved_among (booking ∷ [])
  pub withdrawn : withdrawn_of venue (book.entries ++ more)
      ≡ withdrawn_of venue book.entries ++ withdrawn_among (booking ∷ [])

-- then it is one more of the venue's bookings
booked-push : (venue : ℕ) (book : BookParts) (more : List BookEntry) (bookings : List Booking) (booking : Booking)
    → IsBookedAs venue book more booking → AreBooked venue book bookings
    → AreBooked venue (grown book more) (bookings ++ booking ∷ [])
booked-push venue book more bookings booking is were =
    let many = is.now in
    let then_is : when_it_had (entries_before booking) book ≡ book =
    ap (λ n. when_it_had n book) is.now ∙ ap (λ entries. record book { entries = entries }) (take-length book.entries) in
    let now : IsAnswered venue book bookings booking = record {
      within = omega (arith, many);
      answer = subst (λ (b : BookParts). IsRuled venue b booking) (sym then_is) is.answer;
      history = subst (λ (b : BookParts). IsAsBooked venue b bookings) (sym then_is) were.history;
    } in
    record {
      answered = answered-push venue (grown book more) [] bookings booking
          (all_answered venue book more [] bookings were.answered) (one_answered venue book more bookings booking now);
      history = record {
        moved = moved-append venue book.entries more
            ∙ (ap (λ l. l ++ moved_of venue more) were.history.moved
            ∙ (ap (λ l. moved_among bookings ++ l) is.moved ∙ sym (among-append bookings (booking ∷ []))));
        withdrawn = is.withdrawn
            ∙ (ap (λ l. l ++ withdrawn_among (booking ∷ [])) were.history.withdrawn
            ∙ sym (gone-append bookings (booking ∷ [])));
      };
    }

-- a booking of one venue is one more of its bookings, and the other venues' stay as they are
pub record Books (book after : BookParts) (venue : ℕ) (booking : Booking) : Type 0 where
  pub more : List BookEntry
  pub writes : after ≡ grown book more
  pub here : IsBookedAs venue book more booking
  pub elsewhere : (other : ℕ) → (venue ≡ other → ⊥) → IsElsewhere other book more

-- ---- a note

pub not_same : (a b : ℕ) → (a ≡ b → ⊥) → (a == b) ≡ false
not_same a b differ =
    elim (cases_Bool (a == b)) [
      | inl same ↦ absurd (differ (eqb-true a b same))
      | inr other ↦ other
    ]

unwritten : (book : BookParts) (venue : ℕ) (booking : Booking) → entries_before booking ≡ length book.entries
    → IsRuled venue book booking → moved_among (booking ∷ []) ≡ [] → withdrawn_among (booking ∷ []) ≡ []
    → Books book book venue booking
unwritten book venue booking now answer still none = record {
  more = [];
  writes = sym (grown-none book);
  here = record {
    now = now;
    answer = answer;
    moved = sym still;
    withdrawn = ap (withdrawn_of venue) (append-nil book.entries)
        ∙ (sym (append-nil (withdrawn_of venue book.entries)) ∙ ap (λ l. withdrawn_of venue book.entries ++ l) (sym none));
  };
  elsewhere = λ other differ. record { moved = refl; withdrawn = ap (withdrawn_of other) (append-nil book.entries) };
}

moved_elsewhere : (b : Bool) (note : Note) → b ≡ false → (let l : List Note = if b then note ∷ [] else [] in l ≡ [])
moved_elsewhere true note e = absurd cc
moved_elsewhere false note e = refl

books_note : (book : BookParts) (venue : ℕ) (note : Note) (answer : Applied) (entries : ℕ)
    → answer_to book venue note ≡ answer → entries ≡ length book.entries
    → Books book (after_note book venue note answer) venue (Given note answer entries)
books_note book venue note applied.Moved entries is now = record {
  more = Moved venue note ∷ [];
  writes = refl;
  here = record {
    now = now;
    answer = is;
    moved = ap (λ b. if b then note ∷ [] else []) (eq-eqb venue venue refl);
    withdrawn = withdrawn-moved venue venue note book.entries ∙ sym (append-nil (withdrawn_of venue book.entries));
  };
  elsewhere = λ other differ. record {
    moved = moved_elsewhere (venue == other) note (not_same venue other differ);
    withdrawn = withdrawn-moved other venue note book.entries;
  };
}
books_note book venue note applied.Duplicate entries is now =
    unwritten book venue (Given note applied.Duplicate entries) now is refl refl
books_note book venue note applied.Overfill entries is now =
    unwritten book venue (Given note applied.Overfill entries) now is refl refl
books_note book venue note applied.Stray entries is now =
    unwritten book venue (Given note applied.Stray entries) now is refl refl

-- ---- a withdrawal

one_venue : (venue other : ℕ) (order : Option Routed) → is_of_venue venue order ≡ true → (venue ≡ other → ⊥)
    → is_of_venue other order ≡ false
one_venue venue other None here differ = absurd cc
one_venue venue other (Some order) here differ =
    not_same order.venue other (λ e. differ (sym (eqb-true order.venue venue here) ∙ e))

abbrev pub IsBookedBy : BookParts → ℕ → LegIdParts → ℕ → BookAnswer → Type 0
IsBookedBy book venue id entries answer =
    is_ok (withdraw_of venue book id).0 ≡ is_ok answer.0 → Books book answer.1 venue (Asked id (is_ok answer.0) entries)

pub books_asked : (book : BookParts) (venue : ℕ) (id : LegIdParts) (entries : ℕ) → entries ≡ length book.entries
    → IsBookedBy book venue id entries (withdraw_of venue book id)
books_asked book venue id entries now =
    asked_cases (IsBookedBy book venue id entries) venue book id
    (λ is. unwritten book venue (Asked id false entries) now is refl refl)
    (λ of_venue done is. record {
      more = Withdrawn id ∷ [];
      writes = refl;
      here = record {
        now = now;
        answer = is;
        moved = refl;
        withdrawn = withdrawn-one venue id book.entries
            ∙ ap (λ b. withdrawn_of venue book.entries ++ (if b then id ∷ [] else [])) of_venue;
      };
      elsewhere = λ other differ. record {
        moved = refl;
        withdrawn = withdrawn-one other id book.entries
            ∙ (ap (λ b. withdrawn_of other book.entries ++ (if b then id ∷ [] else []))
            (one_venue venue other (order_of id book.entries) of_venue differ)
            ∙ append-nil (withdrawn_of other book.entries));
      };
    })

-- ---- the sides of all venues

module _ (book after : BookParts) (venue : ℕ) (booking : Booking) (books : Books book after venue booking) where
  here_more : (bookings : List Booking) → AreBooked venue book bookings
      → AreBooked venue after (bookings ++ booking ∷ [])
  here_more bookings were = subst (λ (b : BookParts). AreBooked venue b (bookings ++ booking ∷ [])) (sym books.writes)
      (booked-push venue book books.more bookings booking books.here were)

  as_before : (other : ℕ) (bookings : List Booking) → (venue ≡ other → ⊥) → AreBooked other book bookings
      → AreBooked other after bookings
  as_before other bookings differ were = subst (λ (b : BookParts). AreBooked other b bookings) (sym books.writes)
      (booked-more other book books.more bookings (books.elsewhere other differ) were)

  written_above : (from : ℕ) (sides : List VenueBookings) → venue < from → AreWritten book from sides
      → AreWritten after from sides
  written_above from [] low were = tt
  written_above from (side ∷ sides) low were = (
    as_before from side.side.items (λ e. omega (arith, low, e)) were.0,
    written_above (suc from) sides (omega (arith, low)) were.1,
  )

  written_at : (from at : ℕ) (sides : List VenueBookings) (old new : VenueBookings) → from + at ≡ venue
      → slice_get sides at ≡ Some old → new.side.items ≡ old.side.items ++ booking ∷ [] → AreWritten book from sides
      → AreWritten after from (set sides at new)
  written_at from at [] old new is there more were = absurd cc
  written_at from zero (side ∷ sides) old new is there more were =
      let same : side ≡ old = cc in
      let place : venue ≡ from = omega (arith, is) in (
        subst (AreBooked from after) (sym more)
            (subst (λ v. AreBooked v after (old.side.items ++ booking ∷ [])) place
            (here_more old.side.items (subst (λ v. AreBooked v book old.side.items) (sym place)
            (subst (λ (s : VenueBookings). AreBooked from book s.side.items) same were.0)))),
        written_above (suc from) sides (omega (arith, place)) were.1,
      )
  written_at from (suc at) (side ∷ sides) old new is there more were = (
    as_before from side.side.items (λ e. omega (arith, is, e)) were.0,
    written_at (suc from) at sides old new (omega (arith, is)) there more were.1,
  )

  written_one : (before now : List VenueBookings) → IsOneMore venue booking before now → AreWritten book 0 before
      → AreWritten after 0 now
  written_one before now one were = subst (AreWritten after 0) (sym one.set_there)
      (written_at 0 venue before one.side one.more (omega arith) one.there one.is_more were)

-- a note was answered
pub written-noted : (book after : BookParts) (venue : ℕ) (note : Note) (answer : Applied) (entries : ℕ)
    (before now : List VenueBookings) → answer ≡ answer_to book venue note
    → after ≡ after_note book venue note (answer_to book venue note) → entries ≡ length book.entries
    → IsOneMore venue (Given note answer entries) before now → AreWritten book 0 before → AreWritten after 0 now
written-noted book after venue note answer entries before now is next many one were =
    let same : after_note book venue note answer ≡ after = ap (after_note book venue note) is ∙ sym next in
    written_one book after venue (Given note answer entries)
    (subst (λ (b : BookParts). Books book b venue (Given note answer entries)) same
    (books_note book venue note answer entries (sym is) many)) before now one were

-- a withdrawal was
pub written-asked : (book after : BookParts) (venue : ℕ) (id : LegIdParts) (result : Result (Unit {0}) BookFault)
    (entries : ℕ) (before now : List VenueBookings) → (let r : BookAnswer = (result, after) in r ≡ withdraw_of venue book id)
    → entries ≡ length book.entries → IsOneMore venue (Asked id (is_ok result) entries) before now
    → AreWritten book 0 before → AreWritten after 0 now
written-asked book after venue id result entries before now is many one were =
    written_one book after venue (Asked id (is_ok result) entries)
    (subst (IsBookedBy book venue id entries) (sym is) (books_asked book venue id entries many)
    (ap (λ (r : BookAnswer). is_ok r.0) (sym is))) before now one were

-- sweeps were opened: each venue's bookings stay as they are
written_more : (book : BookParts) (more : List BookEntry) (from : ℕ) (sides : List VenueBookings)
    → ((venue : ℕ) → IsElsewhere venue book more) → AreWritten book from sides → AreWritten (grown book more) from sides
written_more book more from [] none were = tt
written_more book more from (side ∷ sides) none were =
    (booked-more from book more side.side.items (none from) were.0, written_more book more (suc from) sides none were.1)

written-again : (book : BookParts) (sweep : Sweep) (sides : List VenueBookings) → Replays book
    → AreWritten book 0 sides → AreWritten (again book (Opened sweep)) 0 sides
written-again book sweep sides replays were =
    let opens : Sweep = record { legs = sweep.legs } in
    elim (open_outcome book (next_sweep book) sweep.legs) [
      | inl writes ↦ subst (λ (b : BookParts). AreWritten b 0 sides) (sym writes)
          (written_more book (Opened opens ∷ []) 0 sides
          (λ venue. record { moved = refl; withdrawn = withdrawn-opened book replays venue opens }) were)
      | inr same ↦ subst (λ (b : BookParts). AreWritten b 0 sides) (sym same) were
    ]

written-opens : (book : BookParts) (sweeps : List Sweep) (sides : List VenueBookings) → Replays book
    → AreWritten book 0 sides → AreWritten (replay book (map (λ sweep. Opened sweep) sweeps)) 0 sides
written-opens book [] sides replays were = were
written-opens book (sweep ∷ sweeps) sides replays were =
    written-opens (again book (Opened sweep)) sweeps sides (opened_one book replays sweep).replays
    (written-again book sweep sides replays were)

pub written-opened : (book after : BookParts) (sides : List VenueBookings) → Replays book → OnlyOpens book after
    → AreWritten book 0 sides → AreWritten after 0 sides
written-opened book after sides replays opens were =
    subst (λ (b : BookParts). AreWritten b 0 sides) (sym opens.opens)
    (written-opens book opens.sweeps sides replays were)

at_place : (book : BookParts) (from at : ℕ) (sides : List VenueBookings) (side : VenueBookings)
    → slice_get sides at ≡ Some side → AreWritten book from sides → AreBooked (from + at) book side.side.items
at_place book from at [] side there were = absurd cc
at_place book from zero (first ∷ sides) side there were =
    let here : from + 0 ≡ from = omega arith in
    let same : first ≡ side = cc in
    subst (λ v. AreBooked v book side.side.items) (sym here)
    (subst (λ (s : VenueBookings). AreBooked from book s.side.items) same were.0)
at_place book from (suc at) (first ∷ sides) side there were =
    let next : from + suc at ≡ suc from + at = omega arith in
    subst (λ v. AreBooked v book side.side.items) (sym next) (at_place book (suc from) at sides side there were.1)

-- on a venue's side stands what the book took of it
pub written-at : (book : BookParts) (venue : ℕ) (sides : List VenueBookings) (side : VenueBookings)
    → slice_get sides venue ≡ Some side → AreWritten book 0 sides → AreBooked venue book side.side.items
written-at book venue sides side there were =
    let here : 0 + venue ≡ venue = omega arith in
    subst (λ v. AreBooked v book side.side.items) here (at_place book 0 venue sides side there were)

-- a new book has no booking
pub written-push : (venues from : ℕ) (sides : List VenueBookings) (side : VenueBookings) → side.side.items ≡ []
    → AreWritten (new_book venues) from sides → AreWritten (new_book venues) from (sides ++ side ∷ [])
written-push venues from [] side none were = (
  subst (AreBooked from (new_book venues)) (sym none)
      (record { answered = tt; history = record { moved = refl; withdrawn = refl } }),
  tt,
)
written-push venues from (first ∷ sides) side none were =
    (were.0, written-push venues (suc from) sides side none were.1)

-- a side that keeps its bookings
pub written-kept : (book : BookParts) (from at : ℕ) (sides : List VenueBookings) (old new : VenueBookings)
    → slice_get sides at ≡ Some old → new.side.items ≡ old.side.items → AreWritten book from sides
    → AreWritten book from (set sides at new)
written-kept book from at [] old new there same were = absurd cc
written-kept book from zero (first ∷ sides) old new there same were =
    let is : first ≡ old = cc in
    (subst (AreBooked from book) (ap (λ (s : VenueBookings). s.side.items) is ∙ sym same) were.0, were.1)
written-kept book from (suc at) (first ∷ sides) old new there same were =
    (were.0, written-kept book (suc from) at sides old new there same were.1)
