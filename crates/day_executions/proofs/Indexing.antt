-- An index of a day, one step on, at its end, and when the day grows.
use Rattle.std.proofs.Common.{◌≡◌, ℕ, zero, suc, ◌+◌, ◌<◌, ◌≤◌, true, false, List, [], ◌∷◌, ◌++◌, length, map, take, drop, get_or, Option, Some, None, refl, sym, ap, subst, ◌∙◌, arith}
use Rattle.std.specs.Prelude.{option_and_then, option_map, option_to_list, slice_get}
use Rattle.std.proofs.lemmas.List.{map-append, take_more, drop_more, take_all, length-take-le}
use Rattle.std.proofs.lemmas.Option.{slice_get_within, get_or_from_slice_get, slice_get-get_or}
use Rattle.share_ledger.specs.declared.book_entry.BookEntry.{BookEntry}
use Rattle.share_ledger.specs.declared.book_entry.BookEntry.TheVariants.{Opened, Withdrawn, Moved}
use Rattle.exec_collector.specs.declared.unbooked.Unbooked.{Unbooked}
use Rattle.day_executions.specs.declared.heard.Heard.{Heard}
use Rattle.day_executions.specs.declared.place.Place.{Place}
use Rattle.day_executions.specs.declared.place.Place.TheVariants as place
use Rattle.day_executions.specs.Executions.{AreInOrder, IsIndex, booked, found, heard, left}
use Rattle.day_executions.specs.Walk.{AllFound, IsEnd, is_behind, is_next, place_of}
use Rattle.day_executions.proofs.Walking.{wider, in_order_more, heard_entry, heard_item}

abbrev some : Heard → Option Heard
some said = Some said

-- the note that comes next
record Next (entries : ℕ) (there : Option Unbooked) : Type 0 where
  item : Unbooked
  is : there ≡ Some item
  short : item.entries ≤ entries

next_of : (entries : ℕ) (there : Option Unbooked) → is_behind entries there ≡ true → Next entries there
next_of entries None is = absurd (grind (arith, is))
next_of entries (Some item) is = record { item = item; is = refl; short = grind (arith, is) }

-- where none comes next, the others stand behind one entry more
later : (entries most : ℕ) (unbooked : List Unbooked) (items : ℕ) → AreInOrder entries most (drop items unbooked)
    → is_next unbooked items entries ≡ false → AreInOrder (suc entries) most (drop items unbooked)
later entries most [] zero order none = tt
later entries most [] (suc items) order none = tt
later entries most (first ∷ unbooked) zero order none =
    let above : suc entries ≤ first.entries = grind (arith, none) in
    (above, order.1, order.2)
later entries most (first ∷ unbooked) (suc items) order none = later entries most unbooked items order none

-- where none comes next and all entries were looked at, no note is left
no_more : (least most entries : ℕ) (unbooked : List Unbooked) (items : ℕ) → AreInOrder least most (drop items unbooked)
    → most ≤ entries → is_next unbooked items entries ≡ false → length unbooked ≤ items
no_more least most entries [] items order le none = omega arith
no_more least most entries (first ∷ unbooked) zero order le none =
    let below = order.1 in
    absurd (grind (arith, none, below, le))
no_more least most entries (first ∷ unbooked) (suc items) order le none =
    let rest = no_more least most entries unbooked items order le none in
    omega (arith, rest)

-- what stands at the place of an entry
at_entry : (history : List BookEntry) (unbooked : List Unbooked) (entries : ℕ) (entry : BookEntry)
    → slice_get history entries ≡ Some entry
    → map (found history unbooked) (place_of entries entry) ≡ map some (option_to_list (booked entry))
at_entry history unbooked entries (Opened sweep) there = refl
at_entry history unbooked entries (Withdrawn id) there = refl
at_entry history unbooked entries (Moved venue note) there =
    ap (λ (o : Option BookEntry). option_and_then booked o ∷ []) there

-- the entry at a place, as it is looked up
pub entry_there : (history : List BookEntry) (at : ℕ) (entry : BookEntry) → at < length history
    → entry ≡ get_or history at entry → slice_get history at ≡ Some entry
entry_there history at entry below is =
    slice_get-get_or history at entry below ∙ ap (λ (x : BookEntry). Some x) (sym is)

-- one entry more is looked at
pub index_entry : (entries items next : ℕ) (places more : List Place) (history : List BookEntry)
    (unbooked : List Unbooked) (entry : BookEntry)
    → IsIndex entries items places history unbooked → slice_get history entries ≡ Some entry
    → is_next unbooked items entries ≡ false → next ≡ entries + 1 → more ≡ places ++ place_of entries entry
    → IsIndex next items more history unbooked
index_entry entries items next places more history unbooked entry index there none next_is more_is =
    let below = slice_get_within history entries entry there in
    let within = index.within in
    let taken : length (take entries history) ≡ entries = length-take-le entries history within in
    let one_more : take next history ≡ take entries history ++ entry ∷ [] =
    ap (λ (n : ℕ). take n history) next_is
    ∙ take_more history entries entry below
    ∙ ap (λ (x : BookEntry). take entries history ++ x ∷ [])
    (get_or_from_slice_get history entries entry entry there) in
    let order = wider 0 entries (0 + length (take entries history)) (take items unbooked) index.before
    (omega (arith, taken)) in
    let suc_is : next ≡ suc entries = omega (arith, next_is) in
    let was = heard (take entries history) (take items unbooked) in
    let behind : AreInOrder next (length history) (drop items unbooked) =
    rw suc_is (later entries (length history) unbooked items index.behind none) in
    record {
      within = omega (arith, below, next_is);
      among = index.among;
      before = wider 0 entries next (take items unbooked) index.before (omega (arith, next_is));
      behind = behind;
      are = ap (λ (l : List Place). map (found history unbooked) l) more_is
          ∙ map-append (found history unbooked) places (place_of entries entry)
          ∙ ap (λ l. l ++ map (found history unbooked) (place_of entries entry)) index.are
          ∙ ap (λ l. map some was ++ l) (at_entry history unbooked entries entry there)
          ∙ sym (map-append some was (option_to_list (booked entry)))
          ∙ ap (λ l. map some l) (sym (heard_entry 0 (take entries history) entry (take items unbooked) order))
          ∙ ap (λ (l : List BookEntry). map some (heard l (take items unbooked))) (sym one_more);
    }

-- one note more is looked at, that the book didn't take
pub index_item : (entries items next : ℕ) (places more : List Place) (history : List BookEntry)
    (unbooked : List Unbooked)
    → IsIndex entries items places history unbooked → is_next unbooked items entries ≡ true
    → next ≡ items + 1 → more ≡ places ++ place.Left items ∷ []
    → IsIndex entries next more history unbooked
index_item entries items next places more history unbooked index is next_is more_is =
    let there = next_of entries (slice_get unbooked items) is in
    let item = there.item in
    let short = there.short in
    let below = slice_get_within unbooked items item there.is in
    let at : get_or unbooked items item ≡ item = get_or_from_slice_get unbooked items item item there.is in
    let left_are : drop items unbooked ≡ item ∷ drop next unbooked =
    drop_more unbooked items item below
    ∙ ap (λ (x : Unbooked). x ∷ drop (items + 1) unbooked) at
    ∙ ap (λ (n : ℕ). item ∷ drop n unbooked) (sym next_is) in
    let order : AreInOrder entries (length history) (item ∷ drop next unbooked) = subst (λ (l : List Unbooked). AreInOrder entries (length history) l) left_are index.behind in
    let above = order.0 in
    let same : item.entries ≡ entries = omega (arith, above, short) in
    let one_more : take next unbooked ≡ take items unbooked ++ item ∷ [] =
    ap (λ (n : ℕ). take n unbooked) next_is
    ∙ take_more unbooked items item below
    ∙ ap (λ (x : Unbooked). take items unbooked ++ x ∷ []) at in
    let within = index.within in
    let taken : length (take entries history) ≡ entries = length-take-le entries history within in
    let before = wider 0 entries (0 + length (take entries history)) (take items unbooked) index.before
    (omega (arith, taken)) in
    let was = heard (take entries history) (take items unbooked) in
    let before_more : AreInOrder 0 entries (take next unbooked) =
    rw one_more (in_order_more 0 entries (take items unbooked) item index.before (omega arith) same) in
    let behind : AreInOrder entries (length history) (drop next unbooked) = rw (sym same) order.2 in
    record {
      within = index.within;
      among = omega (arith, below, next_is);
      before = before_more;
      behind = behind;
      are = ap (λ (l : List Place). map (found history unbooked) l) more_is
          ∙ map-append (found history unbooked) places (place.Left items ∷ [])
          ∙ ap (λ l. l ++ found history unbooked (place.Left items) ∷ []) index.are
          ∙ ap (λ (o : Option Unbooked). map some was ++ option_map left o ∷ []) there.is
          ∙ sym (map-append some was (left item ∷ []))
          ∙ ap (λ l. map some l) (sym (heard_item 0 (take entries history) (take items unbooked) item before
          (omega (arith, same, taken))))
          ∙ ap (λ (l : List Unbooked). map some (heard (take entries history) l)) (sym one_more);
    }

-- at the end all that was heard stands at the places
pub index_end : (entries items : ℕ) (places : List Place) (history : List BookEntry) (unbooked : List Unbooked)
    → IsIndex entries items places history unbooked → IsEnd entries items history unbooked
    → AllFound places history unbooked
index_end entries items places history unbooked index end =
    index.are
    ∙ ap (λ (l : List BookEntry). map some (heard l (take items unbooked))) (take_all entries history end.all)
    ∙ ap (λ (l : List Unbooked). map some (heard history l)) (take_all items unbooked
    (no_more entries (length history) entries unbooked items index.behind end.all end.none))
