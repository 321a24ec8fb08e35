-- What the book didn't take, as more is written in it and more is listed.
use Rattle.std.proofs.Common.{◌≡◌, ℕ, zero, suc, ◌+◌, ◌<◌, ◌≤◌, Bool, true, false, List, [], ◌∷◌, ◌++◌, length, map, Some, Result, inl, inr, refl, ap, sym, ◌∙◌, subst, arith, if◌then◌else◌}
use Rattle.std.specs.Prelude.{◌==◌, slice_get}
use Rattle.std.specs.Result.{is_ok}
use Rattle.std.proofs.Math.ListN.{set}
use Rattle.std.proofs.Math.Seq.{take-length}
use Rattle.std.proofs.lemmas.Bool.{eq-eqb}
use Rattle.std.proofs.lemmas.List.{append-nil, append_assoc, length-append, take-append-le}
use Rattle.std.proofs.lemmas.List.Elements.{filter-append}
use Rattle.leg.specs.LegId.{LegIdParts}
use Rattle.leg.specs.declared.sweep.Sweep.{Sweep}
use Rattle.dialect.specs.declared.note.Note.{Note}
use Rattle.share_ledger.specs.declared.applied.Applied.{Applied}
use Rattle.share_ledger.specs.declared.applied.Applied.TheVariants as applied
use Rattle.share_ledger.specs.declared.book_entry.BookEntry.{BookEntry}
use Rattle.share_ledger.specs.declared.book_entry.BookEntry.TheVariants.{Opened, Moved}
use Rattle.share_ledger.specs.declared.book_fault.BookFault.{BookFault}
use Rattle.share_ledger.specs.Book.{BookParts, BookAnswer, answer_to, after_note, next_sweep, again, replay}
use Rattle.share_ledger.proofs.Outcomes.{open_outcome}
use Rattle.exec_collector.specs.declared.booking.Booking.{Booking}
use Rattle.exec_collector.specs.declared.booking.Booking.TheVariants.{Given, Asked}
use Rattle.exec_collector.specs.declared.unbooked.Unbooked.{Unbooked}
use Rattle.exec_collector.specs.declared.venue_bookings.VenueBookings.{VenueBookings}
use Rattle.exec_collector.specs.Resolved.{OnlyOpens}
use Rattle.exec_collector.specs.Booked.{has_moved, when_it_had, withdraw_of}
use Rattle.exec_collector.specs.Sides.{AreListed, IsOneMore}
use Rattle.exec_collector.specs.Unbooked.{unbooked_by, unbooked_of, unbooked_among, WasUnbooked, WereUnbookedFrom, IsListOf}
use Rattle.exec_collector.proofs.Booked.{grown, not_same, Books, IsBookedBy, books_asked}

-- ---- the list of a book in which more is written

was_more : (book : BookParts) (more : List BookEntry) (item : Unbooked) → WasUnbooked book item
    → WasUnbooked (grown book more) item
was_more book more item was =
    let within = was.within in
    let then_is : when_it_had item.entries (grown book more) ≡ when_it_had item.entries book =
    ap (λ entries. record book { entries = entries }) (take-append-le item.entries book.entries more within) in
    let longer = length-append book.entries more in
    record {
      within = omega (arith, within, longer);
      answer = ap (λ (b : BookParts). answer_to b item.venue item.note) then_is ∙ was.answer;
      left = was.left;
    }

list_more : (least : ℕ) (book : BookParts) (more : List BookEntry) (unbooked : List Unbooked)
    → WereUnbookedFrom least book unbooked → WereUnbookedFrom least (grown book more) unbooked
list_more least book more [] were = tt
list_more least book more (item ∷ rest) were =
    (were.0, was_more book more item were.1, list_more item.entries book more rest were.2)

list_push : (least : ℕ) (book : BookParts) (unbooked : List Unbooked) (last : Unbooked) → least ≤ length book.entries
    → last.entries ≡ length book.entries → WasUnbooked book last → WereUnbookedFrom least book unbooked
    → WereUnbookedFrom least book (unbooked ++ last ∷ [])
list_push least book [] last low now was were = (omega (arith, low, now), was, tt)
list_push least book (item ∷ rest) last low now was were =
    (were.0, were.1, list_push item.entries book rest last were.1.within now was were.2)

-- a note that the book didn't take is behind it
list_left : (book : BookParts) (venue : ℕ) (note : Note) (answer : Applied) (unbooked : List Unbooked)
    → answer_to book venue note ≡ answer → has_moved answer ≡ false → IsListOf book unbooked
    → IsListOf book (unbooked ++ record { venue = venue; note = note; answer = answer; entries = length book.entries } ∷ [])
list_left book venue note answer unbooked is left were =
    let then_is : when_it_had (length book.entries) book ≡ book =
    ap (λ entries. record book { entries = entries }) (take-length book.entries) in
    list_push 0 book unbooked _ (omega arith) refl
    (record {
      within = omega arith;
      answer = ap (λ (b : BookParts). answer_to b venue note) then_is ∙ is;
      left = left;
    }) were

list_answered : (book : BookParts) (venue : ℕ) (note : Note) (answer : Applied) (unbooked : List Unbooked)
    → answer_to book venue note ≡ answer → IsListOf book unbooked
    → IsListOf (after_note book venue note answer) (unbooked ++ unbooked_by venue note answer (length book.entries))
list_answered book venue note applied.Moved unbooked is were =
    subst (IsListOf (grown book (Moved venue note ∷ []))) (sym (append-nil unbooked))
    (list_more 0 book (Moved venue note ∷ []) unbooked were)
list_answered book venue note applied.Duplicate unbooked is were =
    list_left book venue note applied.Duplicate unbooked is refl were
list_answered book venue note applied.Overfill unbooked is were =
    list_left book venue note applied.Overfill unbooked is refl were
list_answered book venue note applied.Stray unbooked is were =
    list_left book venue note applied.Stray unbooked is refl were

-- a note was answered
pub list-noted : (book after : BookParts) (venue : ℕ) (note : Note) (unbooked now : List Unbooked)
    → after ≡ after_note book venue note (answer_to book venue note)
    → now ≡ unbooked ++ unbooked_by venue note (answer_to book venue note) (length book.entries)
    → IsListOf book unbooked → IsListOf after now
list-noted book after venue note unbooked now next more were =
    subst (λ (b : BookParts). IsListOf b now) (sym next)
    (subst (IsListOf (after_note book venue note (answer_to book venue note))) (sym more)
    (list_answered book venue note (answer_to book venue note) unbooked refl were))

-- a withdrawal was
pub list-asked : (book after : BookParts) (venue : ℕ) (id : LegIdParts) (result : Result (Unit {0}) BookFault)
    (unbooked : List Unbooked) → (let r : BookAnswer = (result, after) in r ≡ withdraw_of venue book id)
    → IsListOf book unbooked → IsListOf after unbooked
list-asked book after venue id result unbooked is were =
    let books : Books book after venue (Asked id (is_ok result) (length book.entries)) =
    subst (IsBookedBy book venue id (length book.entries)) (sym is)
    (books_asked book venue id (length book.entries) refl) (ap (λ (r : BookAnswer). is_ok r.0) (sym is)) in
    subst (λ (b : BookParts). IsListOf b unbooked) (sym books.writes) (list_more 0 book books.more unbooked were)

-- sweeps were opened
list_again : (book : BookParts) (sweep : Sweep) (unbooked : List Unbooked) → IsListOf book unbooked
    → IsListOf (again book (Opened sweep)) unbooked
list_again book sweep unbooked were =
    let opens : Sweep = record { legs = sweep.legs } in
    elim (open_outcome book (next_sweep book) sweep.legs) [
      | inl writes ↦ subst (λ (b : BookParts). IsListOf b unbooked) (sym writes)
          (list_more 0 book (Opened opens ∷ []) unbooked were)
      | inr same ↦ subst (λ (b : BookParts). IsListOf b unbooked) (sym same) were
    ]

list_opens : (book : BookParts) (sweeps : List Sweep) (unbooked : List Unbooked) → IsListOf book unbooked
    → IsListOf (replay book (map (λ sweep. Opened sweep) sweeps)) unbooked
list_opens book [] unbooked were = were
list_opens book (sweep ∷ sweeps) unbooked were =
    list_opens (again book (Opened sweep)) sweeps unbooked (list_again book sweep unbooked were)

pub list-opened : (book after : BookParts) (unbooked : List Unbooked) → OnlyOpens book after → IsListOf book unbooked
    → IsListOf after unbooked
list-opened book after unbooked opens were =
    subst (λ (b : BookParts). IsListOf b unbooked) (sym opens.opens) (list_opens book opens.sweeps unbooked were)

-- ---- the venues' sides

among-append : (venue : ℕ) (xs ys : List Booking)
    → unbooked_among venue (xs ++ ys) ≡ unbooked_among venue xs ++ unbooked_among venue ys
among-append venue [] ys = refl
among-append venue (Given note answer entries ∷ xs) ys =
    ap (λ l. unbooked_by venue note answer entries ++ l) (among-append venue xs ys)
    ∙ sym (append_assoc (unbooked_by venue note answer entries) (unbooked_among venue xs) (unbooked_among venue ys))
among-append venue (Asked id withdrawn entries ∷ xs) ys = among-append venue xs ys

-- what is listed of a booking of one venue is what it says, and none of it is another venue's
pub record Lists (venue : ℕ) (booking : Booking) (more : List Unbooked) : Type 0 where
  pub here : unbooked_of venue more ≡ unbooked_among venue (booking ∷ [])
  pub elsewhere : (other : ℕ) → (venue ≡ other → ⊥) → unbooked_of other more ≡ []

one_if : (b c : Bool) (item : Unbooked) → b ≡ c
    → (let l : List Unbooked = if b then item ∷ [] else [] in
    let r : List Unbooked = if c then item ∷ [] else [] in l ≡ r)
one_if b c item is = ap (λ b. let l : List Unbooked = if b then item ∷ [] else [] in l) is

lists_left : (venue : ℕ) (booking : Booking) (item : Unbooked) → item.venue ≡ venue
    → unbooked_among venue (booking ∷ []) ≡ item ∷ [] → Lists venue booking (item ∷ [])
lists_left venue booking item is among = record {
  here = one_if (item.venue == venue) true item (eq-eqb item.venue venue is) ∙ sym among;
  elsewhere = λ other differ. one_if (item.venue == other) false item
      (not_same item.venue other (λ e. differ (sym is ∙ e)));
}

lists_note : (venue : ℕ) (note : Note) (answer : Applied) (entries : ℕ)
    → Lists venue (Given note answer entries) (unbooked_by venue note answer entries)
lists_note venue note applied.Moved entries = record { here = refl; elsewhere = λ other differ. refl }
lists_note venue note applied.Duplicate entries =
    lists_left venue (Given note applied.Duplicate entries) _ refl refl
lists_note venue note applied.Overfill entries =
    lists_left venue (Given note applied.Overfill entries) _ refl refl
lists_note venue note applied.Stray entries = lists_left venue (Given note applied.Stray entries) _ refl refl

module _ (venue : ℕ) (booking : Booking) (unbooked more : List Unbooked) (lists : Lists venue booking more) where
  here_more : (items : List Booking) → unbooked_of venue unbooked ≡ unbooked_among venue items
      → unbooked_of venue (unbooked ++ more) ≡ unbooked_among venue (items ++ booking ∷ [])
  here_more items were = filter-append (λ (item : Unbooked). item.venue == venue) unbooked more
      ∙ (ap (λ l. l ++ unbooked_of venue more) were
      ∙ (ap (λ l. unbooked_among venue items ++ l) lists.here ∙ sym (among-append venue items (booking ∷ []))))

  as_before : (other : ℕ) (items : List Booking) → (venue ≡ other → ⊥)
      → unbooked_of other unbooked ≡ unbooked_among other items
      → unbooked_of other (unbooked ++ more) ≡ unbooked_among other items
  as_before other items differ were = filter-append (λ (item : Unbooked). item.venue == other) unbooked more
      ∙ (ap (λ l. unbooked_of other unbooked ++ l) (lists.elsewhere other differ)
      ∙ (append-nil (unbooked_of other unbooked) ∙ were))

  listed_above : (from : ℕ) (sides : List VenueBookings) → venue < from → AreListed unbooked from sides
      → AreListed (unbooked ++ more) from sides
  listed_above from [] low were = tt
  listed_above from (side ∷ sides) low were = (
    as_before from side.side.items (λ e. omega (arith, low, e)) were.0,
    listed_above (suc from) sides (omega (arith, low)) were.1,
  )

  listed_at : (from at : ℕ) (sides : List VenueBookings) (old new : VenueBookings) → from + at ≡ venue
      → slice_get sides at ≡ Some old → new.side.items ≡ old.side.items ++ booking ∷ [] → AreListed unbooked from sides
      → AreListed (unbooked ++ more) from (set sides at new)
  listed_at from at [] old new is there longer were = absurd cc
  listed_at from zero (side ∷ sides) old new is there longer were =
      let same : side ≡ old = cc in
      let place : venue ≡ from = omega (arith, is) in (
        subst (λ v. unbooked_of v (unbooked ++ more) ≡ unbooked_among v new.side.items) place
            (here_more old.side.items (subst (λ v. unbooked_of v unbooked ≡ unbooked_among v old.side.items) (sym place)
            (subst (λ (s : VenueBookings). unbooked_of from unbooked ≡ unbooked_among from s.side.items) same were.0))
            ∙ ap (unbooked_among venue) (sym longer)),
        listed_above (suc from) sides (omega (arith, place)) were.1,
      )
  listed_at from (suc at) (side ∷ sides) old new is there longer were = (
    as_before from side.side.items (λ e. omega (arith, is, e)) were.0,
    listed_at (suc from) at sides old new (omega (arith, is)) there longer were.1,
  )

  listed_one : (before after : List VenueBookings) → IsOneMore venue booking before after
      → AreListed unbooked 0 before → AreListed (unbooked ++ more) 0 after
  listed_one before after one were = subst (AreListed (unbooked ++ more) 0) (sym one.set_there)
      (listed_at 0 venue before one.side one.more (omega arith) one.there one.is_more were)

-- a note was answered
pub listed-noted : (venue : ℕ) (note : Note) (answer : Applied) (entries : ℕ) (unbooked now : List Unbooked)
    (before after : List VenueBookings) → now ≡ unbooked ++ unbooked_by venue note answer entries
    → IsOneMore venue (Given note answer entries) before after → AreListed unbooked 0 before → AreListed now 0 after
listed-noted venue note answer entries unbooked now before after more one were =
    subst (λ (l : List Unbooked). AreListed l 0 after) (sym more)
    (listed_one venue (Given note answer entries) unbooked (unbooked_by venue note answer entries)
    (lists_note venue note answer entries) before after one were)

-- a withdrawal was: nothing is listed
pub listed-asked : (venue : ℕ) (id : LegIdParts) (withdrawn : Bool) (entries : ℕ) (unbooked : List Unbooked)
    (before after : List VenueBookings) → IsOneMore venue (Asked id withdrawn entries) before after
    → AreListed unbooked 0 before → AreListed unbooked 0 after
listed-asked venue id withdrawn entries unbooked before after one were =
    subst (λ (l : List Unbooked). AreListed l 0 after) (append-nil unbooked)
    (listed_one venue (Asked id withdrawn entries) unbooked []
    (record { here = refl; elsewhere = λ other differ. refl }) before after one were)

-- what is listed of a venue is what stands on its side
listed_place : (unbooked : List Unbooked) (from at : ℕ) (sides : List VenueBookings) (side : VenueBookings)
    → slice_get sides at ≡ Some side → AreListed unbooked from sides
    → unbooked_of (from + at) unbooked ≡ unbooked_among (from + at) side.side.items
listed_place unbooked from at [] side there were = absurd cc
listed_place unbooked from zero (first ∷ sides) side there were =
    let here : from + 0 ≡ from = omega arith in
    let same : first ≡ side = cc in
    subst (λ v. unbooked_of v unbooked ≡ unbooked_among v side.side.items) (sym here)
    (subst (λ (s : VenueBookings). unbooked_of from unbooked ≡ unbooked_among from s.side.items) same were.0)
listed_place unbooked from (suc at) (first ∷ sides) side there were =
    let next : from + suc at ≡ suc from + at = omega arith in
    subst (λ v. unbooked_of v unbooked ≡ unbooked_among v side.side.items) (sym next)
    (listed_place unbooked (suc from) at sides side there were.1)

pub listed-at : (unbooked : List Unbooked) (venue : ℕ) (sides : List VenueBookings) (side : VenueBookings)
    → slice_get sides venue ≡ Some side → AreListed unbooked 0 sides
    → unbooked_of venue unbooked ≡ unbooked_among venue side.side.items
listed-at unbooked venue sides side there were =
    let here : 0 + venue ≡ venue = omega arith in
    subst (λ v. unbooked_of v unbooked ≡ unbooked_among v side.side.items) here
    (listed_place unbooked 0 venue sides side there were)

-- a new side has nothing of which any is listed
pub listed-push : (from : ℕ) (sides : List VenueBookings) (side : VenueBookings) → side.side.items ≡ []
    → AreListed [] from sides → AreListed [] from (sides ++ side ∷ [])
listed-push from [] side none were = (ap (unbooked_among from) (sym none), tt)
listed-push from (first ∷ sides) side none were = (were.0, listed-push (suc from) sides side none were.1)

-- a side that keeps its bookings
pub listed-kept : (unbooked : List Unbooked) (from at : ℕ) (sides : List VenueBookings) (old new : VenueBookings)
    → slice_get sides at ≡ Some old → new.side.items ≡ old.side.items → AreListed unbooked from sides
    → AreListed unbooked from (set sides at new)
listed-kept unbooked from at [] old new there same were = absurd cc
listed-kept unbooked from zero (first ∷ sides) old new there same were =
    let is : first ≡ old = cc in
    (were.0 ∙ ap (unbooked_among from) (ap (λ (s : VenueBookings). s.side.items) is ∙ sym same), were.1)
listed-kept unbooked from (suc at) (first ∷ sides) old new there same were =
    (were.0, listed-kept unbooked (suc from) at sides old new there same were.1)
