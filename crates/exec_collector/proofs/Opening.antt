-- How the venues' lists come under the lock and on the seats.
use Rattle.std.proofs.Common.{◌≡◌, ℕ, zero, suc, List, [], ◌∷◌, ◌++◌, length, map, Some, refl, ap, sym, subst, ◌∙◌, arith}
use Rattle.std.specs.Prelude.{slice_get}
use Rattle.std.proofs.lemmas.List.{append-nil, append_assoc, length-append, map-append}
use Rattle.share_ledger.specs.Book.{new_book}
use Rattle.exec_collector.specs.declared.blank_book.BlankList.{BlankList}
use Rattle.exec_collector.specs.declared.venue_bookings.VenueBookings.{VenueBookings}
use Rattle.exec_collector.specs.Blank.{IsBlank, AreBlank}
use Rattle.exec_collector.specs.Seats.{Seat, worker_seat, worker_seats}
use Rattle.exec_collector.specs.Sides.{AreWritten, AreListed}
use Rattle.exec_collector.proofs.Booked.{written-push}
use Rattle.exec_collector.proofs.Listing.{listed-push}

abbrev pub names_of : List VenueBookings → List ℕ
names_of sides = map (λ venue. venue.side.name) sides

abbrev pub names_in : List BlankList → List ℕ
names_in lists = map (λ list. list.book.name) lists

-- of all these lists the first ones stand under the lock and on the seats, in order, and the others are left
pub record HasOpened (all : List ℕ) (venues : ℕ) (sides : List VenueBookings) (lists : List BlankList)
    (seats : List Seat) : Type 0 where
  pub names : names_of sides ++ names_in lists ≡ all
  pub blank : AreBlank (length sides) lists
  pub written : AreWritten (new_book venues) 0 sides
  pub unbooked : AreListed [] 0 sides
  pub seats_are : seats ≡ worker_seats (length sides)

abbrev pub side_of : BlankList → VenueBookings
side_of list = record { venue = list.venue; side = list.book }

names_length : (sides : List VenueBookings) → length (names_of sides) ≡ length sides
names_length [] = refl
names_length (side ∷ sides) = ap suc (names_length sides)

listed : (names rest : List ℕ) (name : ℕ) → slice_get (names ++ name ∷ rest) (length names) ≡ Some name
listed [] rest name = refl
listed (first ∷ names) rest name = listed names rest name

pub seats_length : (venues : ℕ) → length (worker_seats venues) ≡ venues
seats_length zero = refl
seats_length (suc venues) =
    let rest = seats_length venues in
    let one = length-append (worker_seats venues) (worker_seat venues ∷ []) in
    omega (arith, rest, one)

-- the next list is blank, and stands at its venue's place
pub next_blank : {all : List ℕ} {venues : ℕ} {sides : List VenueBookings} {lists : List BlankList} {seats : List Seat}
    (list : BlankList) (rest : List BlankList) → lists ≡ list ∷ rest → HasOpened all venues sides lists seats
    → IsBlank (length sides) list
next_blank {sides = sides} list rest is so_far = (subst (AreBlank (length sides)) is so_far.blank).0

pub next_named : {all : List ℕ} {venues : ℕ} {sides : List VenueBookings} {lists : List BlankList} {seats : List Seat}
    (list : BlankList) (rest : List BlankList) → lists ≡ list ∷ rest → HasOpened all venues sides lists seats
    → slice_get all list.venue ≡ Some list.seat.name
next_named {all = all} {sides = sides} list rest is so_far =
    let blank = next_blank list rest is so_far in
    let here : list.venue ≡ length (names_of sides) =
    blank.of_venue ∙ sym (names_length sides) in
    let whole : names_of sides ++ list.book.name ∷ names_in rest ≡ all =
    sym (ap (λ ls. names_of sides ++ names_in ls) is) ∙ so_far.names in
    subst (λ at. slice_get all at ≡ Some list.seat.name) (sym here)
    (subst (λ names. slice_get names (length (names_of sides)) ≡ Some list.seat.name) whole
    (listed (names_of sides) (names_in rest) list.book.name ∙ ap Some (sym blank.same)))

-- and then one more stands there
pub opened_next : {all : List ℕ} {venues : ℕ} {sides : List VenueBookings} {lists : List BlankList} {seats : List Seat}
    (list : BlankList) (rest : List BlankList) (sides' : List VenueBookings) (seats' : List Seat) (made : Seat)
    → lists ≡ list ∷ rest → sides' ≡ sides ++ side_of list ∷ [] → seats' ≡ seats ++ made ∷ []
    → made ≡ worker_seat list.venue → HasOpened all venues sides lists seats → HasOpened all venues sides' rest seats'
opened_next {all = all} {venues = venues} {sides = sides} {seats = seats} list rest sides' seats' made is more seated made_is so_far =
    let blank = next_blank list rest is so_far in
    let longer : length (sides ++ side_of list ∷ []) ≡ suc (length sides) =
    (let one = length-append sides (side_of list ∷ []) in omega (arith, one)) in
    let names : names_of (sides ++ side_of list ∷ []) ++ names_in rest ≡ all =
    ap (λ names. names ++ names_in rest)
    (map-append (λ (venue : VenueBookings). venue.side.name) sides (side_of list ∷ []))
    ∙ (append_assoc (names_of sides) (list.book.name ∷ []) (names_in rest)
    ∙ (sym (ap (λ ls. names_of sides ++ names_in ls) is) ∙ so_far.names)) in
    let seats_now : seats ++ made ∷ [] ≡ worker_seats (suc (length sides)) =
    ap (λ (s : Seat). seats ++ s ∷ []) (made_is ∙ ap worker_seat blank.of_venue)
    ∙ ap (λ ss. ss ++ worker_seat (length sides) ∷ []) so_far.seats_are in
    subst (λ now. HasOpened all venues now rest seats') (sym more)
    (record {
      names = names;
      blank = subst (λ n. AreBlank n rest) (sym longer) (subst (AreBlank (length sides)) is so_far.blank).1;
      written = written-push venues 0 sides (side_of list) blank.in_book so_far.written;
      unbooked = listed-push 0 sides (side_of list) blank.in_book so_far.unbooked;
      seats_are = seated ∙ (seats_now ∙ ap worker_seats (sym longer));
    })

pub all_opened : {all : List ℕ} {venues : ℕ} {sides : List VenueBookings} {lists : List BlankList} {seats : List Seat}
    → length lists ≡ 0 → HasOpened all venues sides lists seats → names_of sides ≡ all
all_opened {sides = sides} {lists = []} none done = sym (append-nil (names_of sides)) ∙ done.names
all_opened {lists = list ∷ rest} none done = absurd (omega (arith, none))
