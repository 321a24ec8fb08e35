-- In a book that the calls made, the parts of each leg are within its shares, and nothing is booked on a leg that wasn't
-- opened.
use Rattle.std.proofs.Common.{◌≡◌, ℕ, zero, suc, inl, inr, Bool, true, false, List, [], ◌∷◌, ◌++◌, map, Option, Some, None, Ok, Err, refl, ap, sym, ◌∙◌, subst, arith, if◌then◌else◌}
use Rattle.std.specs.Prelude.{◌==◌, nat_le}
use Rattle.std.proofs.lemmas.Bool.{cases_Bool, eqb-true, leb-true}
use Rattle.std.proofs.lemmas.List.{map-append}
use Rattle.leg.specs.LegId.{LegIdParts}
use Rattle.leg.specs.Numbered.{numbered}
use Rattle.leg.specs.declared.sweep.Sweep.{Sweep}
use Rattle.leg.specs.declared.sweep.Routed.{Routed}
use Rattle.dialect.specs.declared.note.Note.{Note}
use Rattle.dialect.specs.declared.note.Note.TheVariants as note
use Rattle.share_ledger.specs.declared.applied.Applied.{Applied}
use Rattle.share_ledger.specs.declared.applied.Applied.TheVariants as applied
use Rattle.share_ledger.specs.declared.book_entry.BookEntry.{BookEntry}
use Rattle.share_ledger.specs.declared.book_entry.BookEntry.TheVariants.{Opened, Withdrawn, Moved}
use Rattle.share_ledger.specs.declared.book_fault.BookFault.TheVariants.{NotNext, AlreadyMoved, Unfit}
use Rattle.share_ledger.specs.Entries.{order_of, is_same_leg, is_withdrawn, is_about, notes_on, is_booked}
use Rattle.share_ledger.specs.Shares.{Move, Trades, Busts, Ends, Tells, move_of, parts_of}
use Rattle.share_ledger.specs.Book.{BookParts, BookAnswer, new_book, written, moves_on, leg_parts, move_answer, leg_answer, answer_to, after_note, apply, is_fit, next_sweep, open_sweep, withdraw, withdraw_order, again, replay}
use Rattle.share_ledger.proofs.ShareSums.{IsWithin, filled_and_busted, traded-trade, traded-bust, traded-end, traded-told, cancelled-trade, cancelled-bust, cancelled-told, cancelled-end}
use Rattle.share_ledger.proofs.OneMore.{is_withdrawn-opened, notes_on-opened, is_withdrawn-other, is_withdrawn-this, notes_on-withdrawn, is_withdrawn-moved, notes_on-this, notes_on-other, is_same_leg-true, order_of-opened, order_of-withdrawn, order_of-moved}

pub record IsSound (book : BookParts) : Type 0 where
  pub within : (id : LegIdParts) (routed : Routed) → order_of id book.entries ≡ Some routed
      → IsWithin routed.terms.shares (is_withdrawn id book.entries) (moves_on id book)
  pub untouched : (id : LegIdParts) → order_of id book.entries ≡ None
      → (is_withdrawn id book.entries ≡ false) × (notes_on id book.entries ≡ [])

pub numbered-nil : {A : Type 0} (n : ℕ) → numbered {A = A} n [] ≡ None
numbered-nil zero = refl
numbered-nil (suc n) = refl

no_order : (id : LegIdParts) → order_of id [] ≡ None
no_order id = rw (numbered-nil {A = List Routed} id.sweep) refl

pub sound-new : (venues : ℕ) → IsSound (new_book venues)
sound-new venues =
    record {
      within = λ id routed e. (let none : order_of id [] ≡ None = no_order id in cc);
      untouched = λ id e. (refl, refl);
    }

-- the same shares, marks and notes
within_at : (shares shares' : ℕ) (gone gone' : Bool) (notes notes' : List Note) → shares' ≡ shares → gone' ≡ gone
    → notes' ≡ notes → IsWithin shares gone (map move_of notes) → IsWithin shares' gone' (map move_of notes')
within_at shares shares' gone gone' notes notes' es eg en h = rw (es, eg, en) h

nothing_within : (shares : ℕ) → IsWithin shares false []
nothing_within shares = record { within = omega arith }

module _ (book : BookParts) (sweep : Sweep) (sound : IsSound book) where
  within-opened : (id : LegIdParts) (routed : Routed) (old : Option Routed) → order_of id book.entries ≡ old
      → order_of id (book.entries ++ Opened sweep ∷ []) ≡ Some routed
      → IsWithin routed.terms.shares (is_withdrawn id (book.entries ++ Opened sweep ∷ []))
      (map move_of (notes_on id (book.entries ++ Opened sweep ∷ [])))
  within-opened id routed (Some before) h e =
      let stays : order_of id
      (book.entries ++ Opened sweep ∷ []) ≡ Some before = order_of-opened id book.entries sweep before h in
      let same : routed ≡ before = cc in
      within_at before.terms.shares routed.terms.shares (is_withdrawn id book.entries) _ (notes_on id book.entries) _
      (ap (λ r. r.terms.shares) same) (is_withdrawn-opened id book.entries sweep)
      (notes_on-opened id book.entries sweep) (sound.within id before h)
  within-opened id routed None h e =
      let none = sound.untouched id h in
      within_at routed.terms.shares routed.terms.shares false _ [] _
      refl (is_withdrawn-opened id book.entries sweep ∙ none.0) (notes_on-opened id book.entries sweep ∙ none.1)
      (nothing_within routed.terms.shares)

  untouched-opened : (id : LegIdParts) (old : Option Routed) → order_of id book.entries ≡ old
      → order_of id (book.entries ++ Opened sweep ∷ []) ≡ None
      → (is_withdrawn id (book.entries ++ Opened sweep ∷ []) ≡ false)
      × (notes_on id (book.entries ++ Opened sweep ∷ []) ≡ [])
  untouched-opened id (Some before) h e =
      let stays : order_of id
      (book.entries ++ Opened sweep ∷ []) ≡ Some before = order_of-opened id book.entries sweep before h in cc
  untouched-opened id None h e =
      let none = sound.untouched id h in
      (is_withdrawn-opened id book.entries sweep ∙ none.0, notes_on-opened id book.entries sweep ∙ none.1)

  pub sound-opened : IsSound (written (Opened sweep) book)
  sound-opened =
      record {
        within = λ id routed e. within-opened id routed (order_of id book.entries) refl e;
        untouched = λ id e. untouched-opened id (order_of id book.entries) refl e;
      }

-- where all shares are open, nothing was traded or cancelled
within-gone : (shares : ℕ) (gone : Bool) (notes : List Note) → IsWithin shares gone (map move_of notes)
    → (parts_of shares gone (map move_of notes)).still_open ≡ shares → IsWithin shares true (map move_of notes)
within-gone shares gone notes h open_is =
    let within = h.within in
    record { within = omega (arith, within, open_is, filled_and_busted (map move_of notes)) }

module _ (book : BookParts) (leg : LegIdParts) (order : Routed) (found : order_of leg book.entries ≡ Some order)
    (sound : IsSound book) where
  differs : (id : LegIdParts) → order_of id book.entries ≡ None → is_same_leg leg id ≡ false
  differs id none =
      elim (cases_Bool (is_same_leg leg id)) [
        | inl same ↦ (let here : order_of id book.entries ≡ Some order = subst
            (λ k. order_of k book.entries ≡ Some order) (is_same_leg-true leg id same) found in cc)
        | inr other ↦ other
      ]

  module _ (all_open : (leg_parts leg order.terms.shares book).still_open ≡ order.terms.shares) where
    within-withdrawn : (id : LegIdParts) (routed : Routed) → order_of id book.entries ≡ Some routed
        → IsWithin routed.terms.shares (is_withdrawn id (book.entries ++ Withdrawn leg ∷ []))
        (map move_of (notes_on id (book.entries ++ Withdrawn leg ∷ [])))
    within-withdrawn id routed e =
        elim (cases_Bool (is_same_leg leg id)) [
          | inl same ↦
              (let here : order_of id book.entries ≡ Some order = subst (λ k. order_of k book.entries ≡ Some order)
              (is_same_leg-true leg id same) found in
              let same_order : order ≡ routed = cc in
              let opened_all : (parts_of order.terms.shares (is_withdrawn id book.entries)
              (moves_on id book)).still_open ≡ order.terms.shares = subst
              (λ k. (leg_parts k order.terms.shares book).still_open ≡ order.terms.shares)
              (is_same_leg-true leg id same) all_open in
              let gone = within-gone order.terms.shares (is_withdrawn id book.entries) (notes_on id book.entries)
              (sound.within id order here) opened_all in
              within_at order.terms.shares routed.terms.shares true _ (notes_on id book.entries) _
              (ap (λ r. r.terms.shares) (sym same_order)) (is_withdrawn-this id leg book.entries same)
              (notes_on-withdrawn id leg book.entries) gone)
          | inr other ↦
              within_at routed.terms.shares routed.terms.shares (is_withdrawn id book.entries) _
              (notes_on id book.entries) _
              refl (is_withdrawn-other id leg book.entries other) (notes_on-withdrawn id leg book.entries)
              (sound.within id routed e)
        ]

    pub sound-withdrawn : IsSound (written (Withdrawn leg) book)
    sound-withdrawn =
        record {
          within = λ id routed e. within-withdrawn id routed (sym (order_of-withdrawn id leg book.entries) ∙ e);
          untouched = λ id e.
              (let before : order_of id book.entries ≡ None = sym (order_of-withdrawn id leg book.entries) ∙ e in
              let none = sound.untouched id before in (
                is_withdrawn-other id leg book.entries (differs id before)
                    ∙ none.0,
                notes_on-withdrawn id leg book.entries ∙ none.1,
              ));
        }

-- a trade that was let in took no more than was open
pub let_in_trade : (b : Bool) → (if b then applied.Moved else applied.Overfill) ≡ applied.Moved → b ≡ true
let_in_trade true e = refl
let_in_trade false e = cc

-- a bust that was let in names a trade that can be busted
pub let_in_bust : (b : Bool) → (if b then applied.Moved else applied.Stray) ≡ applied.Moved → b ≡ true
let_in_bust true e = refl
let_in_bust false e = cc

within-move : (shares : ℕ) (moves : List Move) (move : Move) → IsWithin shares false moves
    → move_answer (parts_of shares false moves).still_open moves move ≡ applied.Moved
    → IsWithin shares false (moves ++ move ∷ [])
within-move shares moves (Trades trade) h e =
    let within = h.within in
    let fits = leb-true trade.shares (parts_of shares false moves).still_open
    (let_in_trade (nat_le trade.shares (parts_of shares false moves).still_open) e) in
    record {
      within = omega
          (arith, within, fits, filled_and_busted moves, traded-trade moves trade, cancelled-trade shares moves trade);
    }
within-move shares moves (Busts exec) h e =
    let within = h.within in record
    { within = omega (arith, within, traded-bust moves exec, cancelled-bust shares moves exec) }
within-move shares moves Ends h e =
    let within = h.within in
    elim (cancelled-end shares moves) [
      | inl same ↦ record { within = omega (arith, within, same, traded-end moves) }
      | inr rest ↦ record { within = omega (arith, within, rest, traded-end moves) }
    ]
within-move shares moves Tells h e =
    let within = h.within in record { within = omega (arith, within, traded-told moves, cancelled-told shares moves) }

module _ (book : BookParts) (venue : ℕ) (note : Note) (leg : LegIdParts) (order : Routed)
    (about : (k : LegIdParts) → is_about k note ≡ is_same_leg leg k) (found : order_of leg book.entries ≡ Some order)
    (there : is_withdrawn leg book.entries ≡ false) (sound : IsSound book)
    (moved : move_answer (leg_parts leg order.terms.shares book).still_open (moves_on leg book)
    (move_of note) ≡ applied.Moved) where
  within-this : IsWithin order.terms.shares false (map move_of (notes_on leg book.entries ++ note ∷ []))
  within-this =
      let before : IsWithin order.terms.shares false
      (moves_on leg book) = subst (λ b. IsWithin order.terms.shares b (moves_on leg book)) there
      (sound.within leg order found) in
      let let_in : move_answer (parts_of order.terms.shares false (moves_on leg book)).still_open (moves_on leg book)
      (move_of note) ≡ applied.Moved = subst
      (λ b. move_answer (parts_of order.terms.shares b (moves_on leg book)).still_open (moves_on leg book)
      (move_of note) ≡ applied.Moved) there moved in
      rw (map-append move_of (notes_on leg book.entries) (note ∷ []))
      (within-move order.terms.shares (moves_on leg book) (move_of note) before let_in)

  within-moved : (id : LegIdParts) (routed : Routed) → order_of id book.entries ≡ Some routed
      → IsWithin routed.terms.shares (is_withdrawn id (book.entries ++ Moved venue note ∷ []))
      (map move_of (notes_on id (book.entries ++ Moved venue note ∷ [])))
  within-moved id routed e =
      elim (cases_Bool (is_same_leg leg id)) [
        | inl same ↦
            (let path = is_same_leg-true leg id same in
            let here : order_of id book.entries ≡ Some order = subst (λ k. order_of k book.entries ≡ Some order) path
            found in
            let same_order : order ≡ routed = cc in
            let still_there : is_withdrawn id book.entries ≡ false = subst (λ k. is_withdrawn k book.entries ≡ false)
            path there in
            let this : IsWithin order.terms.shares false
            (map move_of (notes_on id book.entries ++ note ∷ [])) = subst
            (λ k. IsWithin order.terms.shares false (map move_of (notes_on k book.entries ++ note ∷ []))) path
            within-this in
            within_at order.terms.shares routed.terms.shares false _ (notes_on id book.entries ++ note ∷ []) _
            (ap (λ r. r.terms.shares) (sym same_order)) (is_withdrawn-moved id book.entries venue note ∙ still_there)
            (notes_on-this id book.entries venue note (about id ∙ same)) this)
        | inr other ↦
            within_at routed.terms.shares routed.terms.shares (is_withdrawn id book.entries) _
            (notes_on id book.entries) _
            refl (is_withdrawn-moved id book.entries venue note)
            (notes_on-other id book.entries venue note (about id ∙ other)) (sound.within id routed e)
      ]

  pub sound-moved : IsSound (written (Moved venue note) book)
  sound-moved =
      record {
        within = λ id routed e. within-moved id routed (sym (order_of-moved id book.entries venue note) ∙ e);
        untouched = λ id e.
            (let before : order_of id book.entries ≡ None = sym (order_of-moved id book.entries venue note) ∙ e in
            let none = sound.untouched id before in
            let other = about id ∙ differs book leg order found sound id before in (
              is_withdrawn-moved id book.entries venue note ∙ none.0,
              notes_on-other id book.entries venue note other
                  ∙ none.1,
            ));
      }

-- a sweep that is opened keeps the book sound, and so does one that is refused
sound-open_step : (is_next fits : Bool) (book : BookParts) (legs : List Routed) → IsSound book
    → (let r : BookAnswer = if is_next
    then (if fits then (Ok tt, written (Opened (record { legs = legs })) book) else (Err Unfit, book))
    else (Err NotNext, book) in IsSound r.1)
sound-open_step true true book legs sound = sound-opened book (record { legs = legs }) sound
sound-open_step true false book legs sound = sound
sound-open_step false fits book legs sound = sound

pub sound-open_sweep : (book : BookParts) (number : ℕ) (legs : List Routed) → IsSound book
    → IsSound (open_sweep book number legs).1
sound-open_sweep book number legs sound = sound-open_step (number == next_sweep book) (is_fit book legs) book legs sound

sound-withdraw_step : (b : Bool) (book : BookParts) (id : LegIdParts)
    → (b ≡ true → IsSound (written (Withdrawn id) book)) → IsSound book
    → (let r : BookAnswer = if b then (Ok tt, written (Withdrawn id) book) else (Err AlreadyMoved, book) in IsSound r.1)
sound-withdraw_step true book id gone sound = gone refl
sound-withdraw_step false book id gone sound = sound

sound-withdraw_order : (book : BookParts) (id : LegIdParts) (order : Option Routed) → order_of id book.entries ≡ order
    → IsSound book → IsSound (withdraw_order book id order).1
sound-withdraw_order book id None e sound = sound
sound-withdraw_order book id (Some routed) e sound =
    sound-withdraw_step ((leg_parts id routed.terms.shares book).still_open == routed.terms.shares) book id
    (λ h. sound-withdrawn book id routed e sound
    (eqb-true (leg_parts id routed.terms.shares book).still_open routed.terms.shares h)) sound

pub sound-withdraw : (book : BookParts) (id : LegIdParts) → IsSound book → IsSound (withdraw book id).1
sound-withdraw book id sound = sound-withdraw_order book id (order_of id book.entries) refl sound

-- what was let in of a leg's note: its order is there, it isn't withdrawn, and the move is possible
pub record LetIn (book : BookParts) (venue : ℕ) (duplicate : Bool) (leg : LegIdParts) (move : Move) : Type 0 where
  pub order : Routed
  pub of_venue : (order.venue == venue) ≡ true
  pub fresh : duplicate ≡ false
  pub found : order_of leg book.entries ≡ Some order
  pub there : is_withdrawn leg book.entries ≡ false
  pub possible : move_answer (leg_parts leg order.terms.shares book).still_open (moves_on leg book) move ≡ applied.Moved

let_in_by : (of_venue duplicate gone : Bool) (answer : Applied)
    → (if of_venue then (if duplicate then applied.Duplicate else (if gone then applied.Stray else answer))
    else applied.Stray) ≡ applied.Moved
    → (of_venue ≡ true) × (duplicate ≡ false) × (gone ≡ false) × (answer ≡ applied.Moved)
let_in_by true true gone answer e = cc
let_in_by true false true answer e = cc
let_in_by true false false answer e = (refl, refl, refl, e)
let_in_by false duplicate gone answer e = cc

pub let_in : (book : BookParts) (venue : ℕ) (duplicate : Bool) (move : Move) (leg : LegIdParts) (order : Option Routed)
    → order_of leg book.entries ≡ order → leg_answer book venue duplicate move leg order ≡ applied.Moved
    → LetIn book venue duplicate leg move
let_in book venue duplicate move leg None found e = cc
let_in book venue duplicate move leg (Some order) found e =
    let both = let_in_by (order.venue == venue) duplicate (is_withdrawn leg book.entries)
    (move_answer (leg_parts leg order.terms.shares book).still_open (moves_on leg book) move) e in
    record { order = order; found = found; of_venue = both.0; fresh = both.1; there = both.2; possible = both.3 }

sound-after_moved : (book : BookParts) (venue : ℕ) (note : Note) → answer_to book venue note ≡ applied.Moved
    → IsSound book → IsSound (written (Moved venue note) book)
sound-after_moved book venue (note.Report report) e sound =
    let it = let_in book venue (is_booked venue report.exec book.entries) (move_of (note.Report report)) report.id
    (order_of report.id book.entries) refl e in
    sound-moved book venue (note.Report report) report.id it.order (λ k. refl) it.found it.there sound it.possible
sound-after_moved book venue (note.Refused id) e sound =
    let it = let_in book venue false (move_of (note.Refused id)) id (order_of id book.entries) refl e in
    sound-moved book venue (note.Refused id) id it.order (λ k. refl) it.found it.there sound it.possible
sound-after_moved book venue (note.Unread fault) e sound = cc

sound-after_note : (book : BookParts) (venue : ℕ) (note : Note) (answer : Applied) → answer_to book venue note ≡ answer
    → IsSound book → IsSound (after_note book venue note answer)
sound-after_note book venue note applied.Moved e sound = sound-after_moved book venue note e sound
sound-after_note book venue note applied.Duplicate e sound = sound
sound-after_note book venue note applied.Overfill e sound = sound
sound-after_note book venue note applied.Stray e sound = sound

pub sound-apply : (book : BookParts) (venue : ℕ) (note : Note) → IsSound book → IsSound (apply book venue note).1
sound-apply book venue note sound = sound-after_note book venue note (answer_to book venue note) refl sound

pub sound-again : (book : BookParts) (entry : BookEntry) → IsSound book → IsSound (again book entry)
sound-again book (Opened sweep) sound = sound-open_sweep book (next_sweep book) sweep.legs sound
sound-again book (Withdrawn id) sound = sound-withdraw book id sound
sound-again book (Moved venue note) sound = sound-apply book venue note sound

-- whatever the calls were
pub sound-replay : (book : BookParts) (entries : List BookEntry) → IsSound book → IsSound (replay book entries)
sound-replay book [] sound = sound
sound-replay book (entry ∷ entries) sound = sound-replay (again book entry) entries (sound-again book entry sound)
