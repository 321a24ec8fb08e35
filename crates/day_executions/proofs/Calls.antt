-- What is asked of a book appends to its history, or leaves it, and what it doesn't take is appended to the list.
use Rattle.std.proofs.Common.{◌≡◌, ℕ, zero, suc, Bool, true, false, List, [], ◌∷◌, ◌++◌, length, map, take, drop, get_or, Option, Some, None, if◌then◌else◌, refl, sym, ap, subst, ◌∙◌, arith}
use Rattle.std.specs.Prelude.{Ok, Err, option_and_then, option_map, slice_get, ◌==◌}
use Rattle.std.proofs.lemmas.List.{append-nil, length-append, take-append-le, drop-append-le}
use Rattle.leg.specs.LegId.{LegIdParts}
use Rattle.leg.specs.declared.sweep.Routed.{Routed}
use Rattle.dialect.specs.declared.note.Note.{Note}
use Rattle.share_ledger.specs.declared.applied.Applied.{Applied}
use Rattle.share_ledger.specs.declared.applied.Applied.TheVariants.{Moved, Duplicate, Overfill, Stray}
use Rattle.share_ledger.specs.declared.book_entry.BookEntry.{BookEntry}
use Rattle.share_ledger.specs.declared.book_entry.BookEntry.TheVariants.{Opened}
use Rattle.share_ledger.specs.declared.book_fault.BookFault.TheVariants.{NotNext, Unfit}
use Rattle.share_ledger.specs.Book.{BookParts, BookAnswer, answer_to, is_fit, next_sweep, open_sweep, withdraw, withdraw_order, written}
use Rattle.share_ledger.specs.Entries.{order_of}
use Rattle.exec_collector.specs.declared.unbooked.Unbooked.{Unbooked}
use Rattle.exec_collector.specs.Unbooked.{CountedParts, IsListOf, WereUnbookedFrom, after_given, give}
use Rattle.day_executions.specs.declared.heard.Heard.{Heard}
use Rattle.day_executions.specs.declared.place.Place.{Place}
use Rattle.day_executions.specs.declared.place.Place.TheVariants as place
use Rattle.day_executions.specs.Executions.{AreInOrder, IsIndex, booked, found, heard, left}
use Rattle.day_executions.proofs.Walking.{wider, in_order_more}

abbrev some : Heard → Option Heard
some said = Some said

-- a list of a book is in order
in_order : (least : ℕ) (book : BookParts) (items : List Unbooked) → WereUnbookedFrom least book items
    → AreInOrder least (length book.entries) items
in_order least book [] were = tt
in_order least book (item ∷ items) were = (were.0, were.1.within, in_order item.entries book items were.2)

pub nothing_looked : (day : CountedParts) → IsListOf day.book day.unbooked
    → IsIndex 0 0 [] day.book.entries day.unbooked
nothing_looked day list = record {
  within = omega arith;
  among = omega arith;
  before = tt;
  behind = in_order 0 day.book day.unbooked list;
  are = refl;
}

-- so it is before the first look
pub begins : (entries items : ℕ) (places : List Place) (seen history : List BookEntry) (unbooked : List Unbooked)
    → entries ≡ 0 → items ≡ 0 → places ≡ [] → seen ≡ history → IsIndex 0 0 [] history unbooked
    → IsIndex entries items places seen unbooked
begins entries items places seen history unbooked none no_items no_places same index =
    subst (λ (n : ℕ). IsIndex n items places seen unbooked) (sym none)
    (subst (λ (n : ℕ). IsIndex 0 n places seen unbooked) (sym no_items)
    (subst (λ (l : List Place). IsIndex 0 0 l seen unbooked) (sym no_places)
    (subst (λ (l : List BookEntry). IsIndex 0 0 [] l unbooked) (sym same) index)))

-- what stood at a place stands there in a longer day
still_there : {X : Type 0} (xs ys : List X) (at : ℕ) (x : X) → slice_get xs at ≡ Some x
    → slice_get (xs ++ ys) at ≡ Some x
still_there [] ys at x there = absurd (grind (arith, there))
still_there (first ∷ xs) ys zero x there = there
still_there (first ∷ xs) ys (suc at) x there = still_there xs ys at x there

booked_still : (there longer : Option BookEntry) (said : Heard) → option_and_then booked there ≡ Some said
    → ((entry : BookEntry) → there ≡ Some entry → longer ≡ Some entry) → option_and_then booked longer ≡ Some said
booked_still None longer said is stays = absurd (grind (arith, is))
booked_still (Some entry) longer said is stays =
    ap (λ (o : Option BookEntry). option_and_then booked o) (stays entry refl) ∙ is

left_still : (there longer : Option Unbooked) (said : Heard) → option_map left there ≡ Some said
    → ((item : Unbooked) → there ≡ Some item → longer ≡ Some item) → option_map left longer ≡ Some said
left_still None longer said is stays = absurd (grind (arith, is))
left_still (Some item) longer said is stays =
    ap (λ (o : Option Unbooked). option_map left o) (stays item refl) ∙ is

found_still : (history entries : List BookEntry) (unbooked items : List Unbooked) (at : Place) (said : Heard)
    → found history unbooked at ≡ Some said → found (history ++ entries) (unbooked ++ items) at ≡ Some said
found_still history entries unbooked items (place.Booked at) said is =
    booked_still (slice_get history at) (slice_get (history ++ entries) at) said is
    (λ entry. still_there history entries at entry)
found_still history entries unbooked items (place.Left at) said is =
    left_still (slice_get unbooked at) (slice_get (unbooked ++ items) at) said is
    (λ item. still_there unbooked items at item)

all_still : (history entries : List BookEntry) (unbooked items : List Unbooked) (places : List Place)
    (all : List Heard) → map (found history unbooked) places ≡ map some all
    → map (found (history ++ entries) (unbooked ++ items)) places ≡ map some all
all_still history entries unbooked items [] all are = are
all_still history entries unbooked items (at ∷ places) [] are =
    let none = ap (λ l. length l) are in
    absurd (omega (arith, none))
all_still history entries unbooked items (at ∷ places) (said ∷ all) are =
    ap (λ o. o ∷ map (found (history ++ entries) (unbooked ++ items)) places)
    (found_still history entries unbooked items at said (ap (λ l. get_or l 0 None) are))
    ∙ ap (λ l. Some said ∷ l) (all_still history entries unbooked items places all (ap (λ l. drop 1 l) are))

-- an index of a day is one of a longer day, where no note was left out of what comes later
longer : (index_entries index_items : ℕ) (places : List Place) (history entries : List BookEntry)
    (unbooked items : List Unbooked) → IsIndex index_entries index_items places history unbooked
    → AreInOrder index_entries (length (history ++ entries)) (drop index_items unbooked ++ items)
    → IsIndex index_entries index_items places (history ++ entries) (unbooked ++ items)
longer index_entries index_items places history entries unbooked items index behind =
    let within = index.within in
    let among = index.among in
    let more = length-append history entries in
    let more_items = length-append unbooked items in
    let dropped = drop-append-le index_items unbooked items among in
    let before_same = take-append-le index_items unbooked items among in
    record {
      within = omega (arith, within, more);
      among = omega (arith, among, more_items);
      before = subst (λ (l : List Unbooked). AreInOrder 0 index_entries l) (sym before_same) index.before;
      behind = subst (λ (l : List Unbooked). AreInOrder index_entries (length (history ++ entries)) l) (sym dropped) behind;
      are = all_still history entries unbooked items places _ index.are
          ∙ ap (λ (l : List BookEntry). map some (heard l (take index_items unbooked)))
          (sym (take-append-le index_entries history entries within))
          ∙ ap (λ (l : List Unbooked). map some (heard (take index_entries (history ++ entries)) l)) (sym before_same);
    }

-- the same, where the day has more entries alone
longer_history : (index_entries index_items : ℕ) (places : List Place) (history entries : List BookEntry)
    (unbooked : List Unbooked) → IsIndex index_entries index_items places history unbooked
    → IsIndex index_entries index_items places (history ++ entries) unbooked
longer_history index_entries index_items places history entries unbooked index =
    let more = length-append history entries in
    let behind = wider index_entries (length history) (length (history ++ entries)) (drop index_items unbooked)
    index.behind (omega (arith, more)) in
    let none = append-nil unbooked in
    subst (λ (l : List Unbooked). IsIndex index_entries index_items places (history ++ entries) l) none
    (longer index_entries index_items places history entries unbooked [] index
    (subst (λ (l : List Unbooked). AreInOrder index_entries (length (history ++ entries)) l)
    (sym (append-nil (drop index_items unbooked))) behind))

-- and where it has one note more that the book didn't take
longer_list : (index_entries index_items : ℕ) (places : List Place) (history : List BookEntry)
    (unbooked : List Unbooked) (item : Unbooked) → item.entries ≡ length history
    → IsIndex index_entries index_items places history unbooked
    → IsIndex index_entries index_items places history (unbooked ++ item ∷ [])
longer_list index_entries index_items places history unbooked item at index =
    let none = append-nil history in
    let last : item.entries ≡ length (history ++ []) = at ∙ ap (λ (l : List BookEntry). length l) (sym none) in
    let order = subst (λ (l : List BookEntry). AreInOrder index_entries (length l) (drop index_items unbooked)) (sym none)
    index.behind in
    let within = index.within in
    let same = ap (λ (l : List BookEntry). length l) none in
    subst (λ (l : List BookEntry). IsIndex index_entries index_items places l (unbooked ++ item ∷ [])) none
    (longer index_entries index_items places history [] unbooked (item ∷ []) index
    (in_order_more index_entries (length (history ++ [])) (drop index_items unbooked) item order
    (omega (arith, within, same)) last))

after : (entries items : ℕ) (places : List Place) (day : CountedParts) (venue : ℕ) (note : Note) (answer : Applied)
    → IsIndex entries items places day.book.entries day.unbooked
    → IsIndex entries items places (after_given day venue note answer).book.entries
    (after_given day venue note answer).unbooked
after entries items places day venue note Moved index =
    subst (λ (l : List Unbooked). IsIndex entries items places (after_given day venue note Moved).book.entries l)
    (sym (append-nil day.unbooked)) (longer_history entries items places day.book.entries _ day.unbooked index)
after entries items places day venue note Duplicate index =
    longer_list entries items places day.book.entries day.unbooked _ refl index
after entries items places day venue note Overfill index =
    longer_list entries items places day.book.entries day.unbooked _ refl index
after entries items places day venue note Stray index =
    longer_list entries items places day.book.entries day.unbooked _ refl index

pub give_keeps : (entries items : ℕ) (places : List Place) (day : CountedParts) (venue : ℕ) (note : Note)
    → IsIndex entries items places day.book.entries day.unbooked
    → IsIndex entries items places (give day venue note).1.book.entries (give day venue note).1.unbooked
give_keeps entries items places day venue note index =
    after entries items places day venue note (answer_to day.book venue note) index

-- an index is kept whichever of two answers is given, if it is by both
either : (b : Bool) (one other : BookAnswer) (entries items : ℕ) (places : List Place) (unbooked : List Unbooked)
    → IsIndex entries items places one.1.entries unbooked → IsIndex entries items places other.1.entries unbooked
    → IsIndex entries items places (if b then one else other).1.entries unbooked
either true one other entries items places unbooked by_one by_other = by_one
either false one other entries items places unbooked by_one by_other = by_other

order_keeps : (entries items : ℕ) (places : List Place) (book : BookParts) (unbooked : List Unbooked)
    (id : LegIdParts) (order : Option Routed) → IsIndex entries items places book.entries unbooked
    → IsIndex entries items places (withdraw_order book id order).1.entries unbooked
order_keeps entries items places book unbooked id None index = index
order_keeps entries items places book unbooked id (Some routed) index =
    either _ _ _ entries items places unbooked
    (longer_history entries items places book.entries _ unbooked index) index

pub withdraw_keeps : (entries items : ℕ) (places : List Place) (day : CountedParts) (id : LegIdParts)
    → IsIndex entries items places day.book.entries day.unbooked
    → IsIndex entries items places (withdraw day.book id).1.entries day.unbooked
withdraw_keeps entries items places day id index =
    order_keeps entries items places day.book day.unbooked id (order_of id day.book.entries) index

pub open_keeps : (entries items : ℕ) (places : List Place) (day : CountedParts) (number : ℕ) (legs : List Routed)
    → IsIndex entries items places day.book.entries day.unbooked
    → IsIndex entries items places (open_sweep day.book number legs).1.entries day.unbooked
open_keeps entries items places day number legs index =
    let book = day.book in
    let opened : BookAnswer = (Ok tt, written (Opened (record { legs = legs })) book) in
    let unfit : BookAnswer = (Err Unfit, book) in
    let longer = longer_history entries items places book.entries (Opened (record { legs = legs }) ∷ []) day.unbooked
    index in
    either (number == next_sweep book) (if is_fit book legs then opened else unfit) (Err NotNext, book) entries items
    places day.unbooked (either (is_fit book legs) opened unfit entries items places day.unbooked longer index) index
