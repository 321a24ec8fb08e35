-- The book and its calls. Each call gives its answer, and the book after it.
use Rattle.std.specs.Prelude.{ℕ, suc, ◌+◌, Bool, false, ◌&&◌, List, [], ◌∷◌, ◌++◌, length, map, filter, sum_by, Option, Some, None, Result, Ok, Err, option_map, bytes_eq, not, ◌==◌, nat_le, nat_lt, if◌then◌else◌}
use Rattle.std.specs.List.{list_all, list_any}
use Rattle.leg.specs.LegId.{LegIdParts}
use Rattle.leg.specs.Numbered.{numbered}
use Rattle.leg.specs.Split.{SplitParts}
use Rattle.leg.specs.declared.sweep.Routed.{Routed}
use Rattle.leg.specs.declared.totals.Totals.{Totals}
use Rattle.dialect.specs.declared.note.Note.{Note}
use Rattle.dialect.specs.declared.note.Note.TheVariants as note
use Rattle.share_ledger.specs.declared.applied.Applied.{Applied}
use Rattle.share_ledger.specs.declared.applied.Applied.TheVariants as applied
pub use Rattle.share_ledger.specs.declared.booked_leg.BookedLeg.{BookedLeg}
use Rattle.share_ledger.specs.declared.book_entry.BookEntry.{BookEntry}
use Rattle.share_ledger.specs.declared.book_entry.BookEntry.TheVariants.{Opened, Withdrawn, Moved}
use Rattle.share_ledger.specs.declared.book_fault.BookFault.{BookFault}
use Rattle.share_ledger.specs.declared.book_fault.BookFault.TheVariants.{NotNext, AlreadyMoved, Unfit}
use Rattle.share_ledger.specs.Entries.{sweep_shares, opened, order_of, is_withdrawn, notes_on, is_booked}
use Rattle.share_ledger.specs.Shares.{Move, Trades, Busts, Ends, Tells, move_of, trades, busted_ids, has_id, parts_of}

-- a book of so many venues, and what was written in it, in order
pub record BookParts : Type 0 where
  pub venues : ℕ
  pub entries : List BookEntry

-- a book in which nothing is written
abbrev pub new_book : ℕ → BookParts
new_book venues = record { venues = venues; entries = [] }

-- the book with one more entry
abbrev pub written : BookEntry → BookParts → BookParts
written entry book = record book { entries = book.entries ++ entry ∷ [] }

-- what the notes booked on a leg did to it, in order
abbrev pub moves_on : LegIdParts → BookParts → List Move
moves_on id book = map move_of (notes_on id book.entries)

-- the five parts of a leg of so many shares
abbrev pub leg_parts : LegIdParts → ℕ → BookParts → SplitParts
leg_parts id shares book = parts_of shares (is_withdrawn id book.entries) (moves_on id book)

-- a leg in the book: its venue, and the parts of its shares
abbrev pub booked_leg : BookParts → LegIdParts → Routed → BookedLeg
booked_leg book id routed = record { venue = routed.venue; parts = leg_parts id routed.terms.shares book }

-- the leg of this number, if its sweep was opened
abbrev pub leg_in : BookParts → LegIdParts → Option BookedLeg
leg_in book id = option_map (booked_leg book id) (order_of id book.entries)

-- the legs of a sweep, in order, the first of them having this place
abbrev pub booked_from : BookParts → ℕ → ℕ → List Routed → List BookedLeg
booked_from book number place [] = []
booked_from book number place (routed ∷ legs) =
    record {
      venue = routed.venue;
      parts = leg_parts (record { sweep = number; place = place }) routed.terms.shares book;
    } ∷ booked_from book number (suc place) legs

-- the legs of these sweeps, in order, the first of them having this number
abbrev pub all_booked_from : BookParts → ℕ → List (List Routed) → List BookedLeg
all_booked_from book number [] = []
all_booked_from book number (legs ∷ sweeps) =
    booked_from book number 1 legs ++ all_booked_from book (suc number) sweeps

-- the sums of the parts of some legs
abbrev pub totals_of : List BookedLeg → Totals
totals_of legs =
    record {
      filled = sum_by (λ leg. leg.parts.filled) legs;
      busted = sum_by (λ leg. leg.parts.busted) legs;
      cancelled = sum_by (λ leg. leg.parts.cancelled) legs;
      withdrawn = sum_by (λ leg. leg.parts.withdrawn) legs;
      still_open = sum_by (λ leg. leg.parts.still_open) legs;
    }

-- the totals of a sweep, if it was opened
abbrev pub totals : BookParts → ℕ → Option Totals
totals book number =
    option_map (λ legs. totals_of (booked_from book number 1 legs)) (numbered number (opened book.entries))

-- the shares of all five
abbrev pub totals_shares : Option Totals → Option ℕ
totals_shares sums = option_map (λ t. t.filled + t.busted + t.cancelled + t.withdrawn + t.still_open) sums

-- the shares that are filled, busted, cancelled or withdrawn
abbrev pub resolved_of : SplitParts → ℕ
resolved_of parts = parts.filled + parts.busted + parts.cancelled + parts.withdrawn

abbrev pub resolved_shares : BookedLeg → ℕ
resolved_shares leg = resolved_of leg.parts

-- the shares of a venue's legs that are filled, busted, cancelled or withdrawn
abbrev pub venue_resolved : BookParts → ℕ → ℕ
venue_resolved book venue =
    sum_by resolved_shares (filter (λ leg. leg.venue == venue) (all_booked_from book 1 (opened book.entries)))

-- the number that the next sweep has
abbrev pub next_sweep : BookParts → ℕ
next_sweep book = length (opened book.entries) + 1

-- the shares of all sweeps that were opened
abbrev pub opened_shares : BookParts → ℕ
opened_shares book = sum_by sweep_shares (opened book.entries)

-- whether a sweep can be opened: it has 1 to 32 legs, each for a venue of the book, and the shares opened in all stay
-- within 10^18
abbrev pub is_fit : BookParts → List Routed → Bool
is_fit book legs =
    nat_le 1 (length legs)
    && nat_le (length legs) 32
    && list_all (λ routed. nat_lt routed.venue book.venues) legs
    && nat_le (opened_shares book + sweep_shares legs) 1000000000000000000

-- what a call answers, and the book after it
abbrev pub BookAnswer : Type 0
BookAnswer = Result (Unit {0}) BookFault × BookParts

-- a sweep is opened under the next number, with all its shares open
abbrev pub open_sweep : BookParts → ℕ → List Routed → BookAnswer
open_sweep book number legs =
    if number == next_sweep book
    then (if is_fit book legs
    then (Ok tt, written (Opened (record { legs = legs })) book)
    else (Err Unfit, book))
    else (Err NotNext, book)

-- a leg is withdrawn, if all its shares are open
abbrev pub withdraw_order : BookParts → LegIdParts → Option Routed → BookAnswer
withdraw_order book id None = (Err AlreadyMoved, book)
withdraw_order book id (Some routed) =
    if (leg_parts id routed.terms.shares book).still_open == routed.terms.shares
    then (Ok tt, written (Withdrawn id) book)
    else (Err AlreadyMoved, book)

abbrev pub withdraw : BookParts → LegIdParts → BookAnswer
withdraw book id = withdraw_order book id (order_of id book.entries)

-- whether an id is that of a trade on the leg that isn't busted
abbrev pub can_bust : List ℕ → List Move → Bool
can_bust exec moves =
    list_any (λ trade. bytes_eq exec trade.exec) (trades moves) && not (has_id exec (busted_ids moves))

-- what is done with a note on a leg of that venue, not withdrawn, under a new id
abbrev pub move_answer : ℕ → List Move → Move → Applied
move_answer open_shares moves Tells = applied.Moved
move_answer open_shares moves Ends = applied.Moved
move_answer open_shares moves (Trades trade) =
    if nat_le trade.shares open_shares then applied.Moved else applied.Overfill
move_answer open_shares moves (Busts exec) = if can_bust exec moves then applied.Moved else applied.Stray

-- what is done with a note on a leg, whose order was looked up: it has to be of that venue, and not withdrawn
abbrev pub leg_answer : BookParts → ℕ → Bool → Move → LegIdParts → Option Routed → Applied
leg_answer book venue is_duplicate move id None = applied.Stray
leg_answer book venue is_duplicate move id (Some routed) =
    if routed.venue == venue
    then (if is_duplicate then applied.Duplicate
    else (if is_withdrawn id book.entries then applied.Stray
    else move_answer (leg_parts id routed.terms.shares book).still_open (moves_on id book) move))
    else applied.Stray

-- what is done with a note of a venue
abbrev pub answer_to : BookParts → ℕ → Note → Applied
answer_to book venue (note.Report report) =
    leg_answer book venue (is_booked venue report.exec book.entries) (move_of (note.Report report)) report.id
    (order_of report.id book.entries)
answer_to book venue (note.Refused id) =
    leg_answer book venue false (move_of (note.Refused id)) id (order_of id book.entries)
answer_to book venue (note.Unread fault) = applied.Stray

-- a note that moves is written, and no other is
abbrev pub after_note : BookParts → ℕ → Note → Applied → BookParts
after_note book venue note applied.Moved = written (Moved venue note) book
after_note book venue note applied.Duplicate = book
after_note book venue note applied.Overfill = book
after_note book venue note applied.Stray = book

-- a note of a venue
abbrev pub apply : BookParts → ℕ → Note → Result Applied BookFault × BookParts
apply book venue note = (Ok (answer_to book venue note), after_note book venue note (answer_to book venue note))

-- an entry's call is made again; a sweep is opened under the next number
abbrev pub again : BookParts → BookEntry → BookParts
again book (Opened sweep) = (open_sweep book (next_sweep book) sweep.legs).1
again book (Withdrawn id) = (withdraw book id).1
again book (Moved venue note) = (apply book venue note).1

-- the book after the calls of these entries
abbrev pub replay : BookParts → List BookEntry → BookParts
replay book [] = book
replay book (entry ∷ entries) = replay (again book entry) entries
