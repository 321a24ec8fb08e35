-- The book withdraws a leg of the venue that it has, unless a note on it moved before or it was withdrawn. So where no
-- leg was asked for twice, and no note is on one that was, it refused none that it had.
use Rattle.std.proofs.Common.{◌≡◌, ◌<◌, ℕ, zero, suc, Bool, true, false, List, [], ◌∷◌, ◌++◌, length, filter, map, take, drop, Option, Some, None, Ok, Err, refl, ap, sym, ◌∙◌, subst, arith, if◌then◌else◌}
use Rattle.std.specs.Prelude.{◌==◌, ◌||◌, slice_index_or}
use Rattle.std.specs.List.{Contains, AllByRecursion, IsDistinct}
use Rattle.std.specs.Result.{is_ok}
use Rattle.std.proofs.lemmas.Bool.{eq-eqb}
use Rattle.std.proofs.lemmas.List.{append-nil, append_assoc, take-append-drop}
use Rattle.std.proofs.lemmas.Option.{same_Some}
use Rattle.leg.specs.LegId.{LegIdParts}
use Rattle.leg.specs.declared.sweep.Routed.{Routed}
use Rattle.dialect.specs.declared.note.Note.{Note}
use Rattle.share_ledger.specs.declared.book_entry.BookEntry.{BookEntry}
use Rattle.share_ledger.specs.declared.book_entry.BookEntry.TheVariants.{Opened, Withdrawn, Moved}
use Rattle.share_ledger.specs.declared.book_fault.BookFault.TheVariants.{AlreadyMoved}
use Rattle.share_ledger.specs.Entries.{order_of, is_same_leg, is_withdrawn, is_about, notes_on}
use Rattle.share_ledger.specs.Shares.{move_of, parts_of}
use Rattle.share_ledger.specs.Book.{BookParts, BookAnswer, written, leg_parts, withdraw, withdraw_order}
use Rattle.share_ledger.proofs.OneMore.{notes_on-append, order_of-opened, order_of-withdrawn, order_of-moved}
use Rattle.exec_collector.specs.declared.booking.Booking.{Booking}
use Rattle.exec_collector.specs.declared.booking.Booking.TheVariants.{Given, Asked}
use Rattle.exec_collector.specs.Resolved.{Replays}
use Rattle.exec_collector.specs.Booked.{moved_of, has_moved, moved_among, withdrawn_among, notes_of, asked_of, is_of_venue, withdraw_of, when_it_had, IsAnswered, AreAnswered, AreBooked}
use Rattle.worker_line.specs.Shares.{is_among}
use Rattle.worker_line.proofs.Shares.{notes_by_venue, withdrawn_by_venue, among_asked}

chosen : (b : Bool) (x y : BookAnswer) → b ≡ true → (let r : BookAnswer = if b then x else y in r ≡ x)
chosen true x y is = refl
chosen false x y is = absurd cc

-- where nothing happened to a leg, all its shares are open
all_open : (shares : ℕ) → (parts_of shares false []).still_open ≡ shares
all_open shares = omega arith

withdraws_order : (book : BookParts) (id : LegIdParts) (routed : Routed) → is_withdrawn id book.entries ≡ false
    → notes_on id book.entries ≡ [] → is_ok (withdraw_order book id (Some routed)).0 ≡ true
withdraws_order book id routed stays none =
    let shares = routed.terms.shares in
    let parts : leg_parts id shares book ≡ parts_of shares false [] =
    ap (λ b. parts_of shares b (map move_of (notes_on id book.entries))) stays
    ∙ ap (λ l. parts_of shares false (map move_of l)) none in
    let whole = eq-eqb (leg_parts id shares book).still_open shares (ap (λ p. p.still_open) parts ∙ all_open shares) in
    ap (λ (r : BookAnswer). is_ok r.0)
    (chosen ((leg_parts id shares book).still_open == shares) (Ok tt, written (Withdrawn id) book)
    (Err AlreadyMoved, book) whole)

-- then the book withdraws it
withdraws_leg : (venue : ℕ) (book : BookParts) (id : LegIdParts) (routed : Routed)
    → order_of id book.entries ≡ Some routed → routed.venue ≡ venue → is_withdrawn id book.entries ≡ false
    → notes_on id book.entries ≡ [] → is_ok (withdraw_of venue book id).0 ≡ true
withdraws_leg venue book id routed found of_venue stays none =
    ap (λ (r : BookAnswer). is_ok r.0)
    (chosen (is_of_venue venue (order_of id book.entries)) (withdraw book id) (Err AlreadyMoved, book)
    (ap (is_of_venue venue) found ∙ eq-eqb routed.venue venue of_venue))
    ∙ (ap (λ order. is_ok (withdraw_order book id order).0) found ∙ withdraws_order book id routed stays none)

-- an order that is there stays there
order_later : (id : LegIdParts) (xs ys : List BookEntry) (routed : Routed) → order_of id xs ≡ Some routed
    → order_of id (xs ++ ys) ≡ Some routed
order_later id xs [] routed is = ap (order_of id) (append-nil xs) ∙ is
order_later id xs (Opened sweep ∷ ys) routed is =
    ap (order_of id) (sym (append_assoc xs (Opened sweep ∷ []) ys))
    ∙ order_later id (xs ++ Opened sweep ∷ []) ys routed (order_of-opened id xs sweep routed is)
order_later id xs (Withdrawn leg ∷ ys) routed is =
    ap (order_of id) (sym (append_assoc xs (Withdrawn leg ∷ []) ys))
    ∙ order_later id (xs ++ Withdrawn leg ∷ []) ys routed (order_of-withdrawn id leg xs ∙ is)
order_later id xs (Moved venue note ∷ ys) routed is =
    ap (order_of id) (sym (append_assoc xs (Moved venue note ∷ []) ys))
    ∙ order_later id (xs ++ Moved venue note ∷ []) ys routed (order_of-moved id xs venue note ∙ is)

-- what isn't in the whole isn't in its first part
first_none : (xs ys : List Note) → xs ++ ys ≡ [] → xs ≡ []
first_none [] ys is = refl
first_none (x ∷ xs) ys is = absurd cc

-- each booking was answered by the rule of the book as it was then, after those before it
record WasAnswered (venue : ℕ) (book : BookParts) (earlier bookings : List Booking) (booking : Booking) : Type 0 where
  before : List Booking
  rest : List Booking
  whole : bookings ≡ before ++ booking ∷ rest
  answered : IsAnswered venue book (earlier ++ before) booking

answered_at : (venue : ℕ) (book : BookParts) (earlier bookings : List Booking) (booking : Booking)
    → AreAnswered venue book earlier bookings → Contains bookings booking
    → WasAnswered venue book earlier bookings booking
answered_at venue book earlier [] booking were there = absurd (let h = there.1 in omega arith)
answered_at venue book earlier (first ∷ rest) booking were (zero, low, is) = record {
  before = [];
  rest = rest;
  whole = ap (λ (b : Booking). b ∷ rest) is;
  answered = subst (λ (l : List Booking). IsAnswered venue book l booking) (sym (append-nil earlier))
      (subst (IsAnswered venue book earlier) is were.0);
}
answered_at venue book earlier (first ∷ rest) booking were (suc k, low, is) =
    let more = answered_at venue book (earlier ++ first ∷ []) rest booking were.1 (k, omega (arith, low), is) in
    record {
      before = first ∷ more.before;
      rest = more.rest;
      whole = ap (λ (l : List Booking). first ∷ l) more.whole;
      answered = subst (λ (l : List Booking). IsAnswered venue book l booking)
          (append_assoc earlier (first ∷ []) more.before) more.answered;
    }

-- the legs of bookings
asked-append : (xs ys : List Booking) → asked_of (xs ++ ys) ≡ asked_of xs ++ asked_of ys
asked-append [] ys = refl
asked-append (Given note answer entries ∷ xs) ys = asked-append xs ys
asked-append (Asked id withdrawn entries ∷ xs) ys = ap (λ l. id ∷ l) (asked-append xs ys)

at_seam : (P : LegIdParts → Type 0) (ids rest : List LegIdParts) (id : LegIdParts)
    → AllByRecursion P (ids ++ id ∷ rest) → P id
at_seam P [] rest id each = each.0
at_seam P (x ∷ ids) rest id each = at_seam P ids rest id each.1

not_before : (ids rest : List LegIdParts) (id : LegIdParts) → IsDistinct is_same_leg (ids ++ id ∷ rest)
    → is_among id ids ≡ false
unfolding IsDistinct
not_before [] rest id once = refl
not_before (x ∷ ids) rest id once =
    ap (λ b. b || is_among id ids) (at_seam (λ y. is_same_leg x y ≡ false) ids rest id once.0)
    ∙ not_before ids rest id once.1

asked_in : (bookings : List Booking) (id : LegIdParts) (withdrawn : Bool) (count : ℕ)
    → Contains bookings (Asked id withdrawn count) → Contains (asked_of bookings) id
asked_in bookings id withdrawn count there = by_place bookings there.0 there.1 there.2
  where
    by_place : (l : List Booking) (k : ℕ) → k < length l
        → slice_index_or l k (Asked id withdrawn count) ≡ Asked id withdrawn count → Contains (asked_of l) id
    by_place [] k low is = absurd (omega (arith, low))
    by_place (Asked leg gone entries ∷ rest) zero low is =
        (0, omega arith, (let e = is in let same : leg ≡ id = cc in same))
    by_place (Given note answer entries ∷ rest) zero low is = absurd (let e = is in cc)
    by_place (Asked leg gone entries ∷ rest) (suc k) low is =
        let more = by_place rest k (omega (arith, low)) is in (suc more.0, (let h = more.1 in omega arith), more.2)
    by_place (Given note answer entries ∷ rest) (suc k) low is = by_place rest k (omega (arith, low)) is

-- the notes that moved are among those given
none_more : (moved : Bool) (id : LegIdParts) (note : Note) (notes : List Note) → is_about id note ≡ false
    → filter (is_about id) notes ≡ [] → filter (is_about id) (if moved then note ∷ notes else notes) ≡ []
none_more true id note notes other none =
    ap (λ b. if b then note ∷ filter (is_about id) notes else filter (is_about id) notes) other ∙ none
none_more false id note notes other none = none

none_moved : (id : LegIdParts) (bookings : List Booking)
    → ((note : Note) → Contains (notes_of bookings) note → is_about id note ≡ false)
    → filter (is_about id) (moved_among bookings) ≡ []
none_moved id [] spared = refl
none_moved id (Given note answer entries ∷ rest) spared =
    none_more (has_moved answer) id note (moved_among rest) (spared note (0, omega arith, refl))
    (none_moved id rest (λ n there. spared n (suc there.0, (let h = there.1 in omega arith), there.2)))
none_moved id (Asked leg withdrawn entries ∷ rest) spared = none_moved id rest spared

module _ (book : BookParts) (replays : Replays book) (venue : ℕ) (bookings : List Booking)
    (booked : AreBooked venue book bookings) (once : IsDistinct is_same_leg (asked_of bookings))
    (spared : (id : LegIdParts) (note : Note) → Contains (asked_of bookings) id → Contains (notes_of bookings) note
    → is_about id note ≡ false)
    (id : LegIdParts) (routed : Routed) (found : order_of id book.entries ≡ Some routed)
    (of_venue : routed.venue ≡ venue) (count : ℕ) (asked : Contains bookings (Asked id false count)) where
  whole : take count book.entries ++ drop count book.entries ≡ book.entries
  whole = take-append-drop count book.entries

  was : WasAnswered venue book [] bookings (Asked id false count)
  was = answered_at venue book [] bookings (Asked id false count) booked.answered asked

  -- it wasn't asked for before
  not_asked : is_among id (asked_of was.before) ≡ false
  not_asked =
      not_before (asked_of was.before) (asked_of was.rest) id
      (subst (IsDistinct is_same_leg) (ap asked_of was.whole ∙ asked-append was.before (Asked id false count ∷ was.rest))
      once)

  not_withdrawn : (gone : Bool) → is_among id (withdrawn_among was.before) ≡ gone → gone ≡ false
  not_withdrawn false is = refl
  not_withdrawn true is = absurd (let e = sym (among_asked id was.before is) ∙ not_asked in cc)

  none_on : notes_on id book.entries ≡ []
  none_on =
      notes_by_venue book replays id routed found
      ∙ (ap (λ v. filter (is_about id) (moved_of v book.entries)) of_venue
      ∙ (ap (filter (is_about id)) booked.history.moved
      ∙ none_moved id bookings (λ note there. spared id note (asked_in bookings id false count asked) there)))

  -- it would have withdrawn it
  withdrew : (old : Routed) → order_of id (take count book.entries) ≡ Some old
      → is_ok (withdraw_of venue (when_it_had count book) id).0 ≡ true
  withdrew old there =
      let later : order_of id book.entries ≡ Some old =
      ap (order_of id) (sym whole)
      ∙ order_later id (take count book.entries) (drop count book.entries) old there in
      let same = same_Some old routed (sym later ∙ found) in
      let here : old.venue ≡ venue = ap (λ (r : Routed). r.venue) same ∙ of_venue in
      withdraws_leg venue (when_it_had count book) id old there here
      (withdrawn_by_venue (when_it_had count book) venue id old there here
      ∙ (ap (is_among id) was.answered.history.withdrawn
      ∙ not_withdrawn (is_among id (withdrawn_among was.before)) refl))
      (first_none (notes_on id (take count book.entries)) (notes_on id (drop count book.entries))
      (sym (notes_on-append id (take count book.entries) (drop count book.entries))
      ∙ (ap (notes_on id) whole ∙ none_on)))

  not_there : (order : Option Routed) → order_of id (take count book.entries) ≡ order → order ≡ None
  not_there None is = refl
  not_there (Some old) is = absurd (let e = sym (withdrew old is) ∙ was.answered.answer in cc)

  pub refused_for : order_of id (take count book.entries) ≡ None
  refused_for = not_there (order_of id (take count book.entries)) refl
