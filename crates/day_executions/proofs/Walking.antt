-- What was heard, one entry or one note more, and an index of it.
use Rattle.std.proofs.Common.{◌≡◌, ℕ, ◌+◌, ◌-◌, ◌≤◌, List, [], ◌∷◌, ◌++◌, length, take, drop, refl, sym, ap, ◌∙◌, arith}
use Rattle.std.specs.Prelude.{filter_map, option_to_list}
use Rattle.std.proofs.lemmas.List.{append_assoc, take_all, drop_all, take-append-le, drop-append-le, length-drop}
use Rattle.std.proofs.lemmas.List.Elements.{filter_map-append}
use Rattle.share_ledger.specs.declared.book_entry.BookEntry.{BookEntry}
use Rattle.share_ledger.specs.declared.book_entry.BookEntry.TheVariants.{Opened, Withdrawn, Moved}
use Rattle.exec_collector.specs.declared.unbooked.Unbooked.{Unbooked}
use Rattle.day_executions.specs.Executions.{AreInOrder, booked, heard_behind, left}

-- more entries than there were leave an order as it is
pub wider : (least most more : ℕ) (items : List Unbooked) → AreInOrder least most items → most ≤ more
    → AreInOrder least more items
wider least most more [] order le = tt
wider least most more (item ∷ items) order le =
    let below = order.1 in
    (order.0, omega (arith, below, le), wider item.entries most more items order.2 le)

-- behind fewer entries too
pub lower : (fewer least most : ℕ) (items : List Unbooked) → AreInOrder least most items → fewer ≤ least
    → AreInOrder fewer most items
lower fewer least most [] order le = tt
lower fewer least most (item ∷ items) order le =
    let above = order.0 in
    (omega (arith, above, le), order.1, order.2)

-- one note more, behind the most
pub in_order_more : (least most : ℕ) (items : List Unbooked) (item : Unbooked) → AreInOrder least most items
    → least ≤ most → item.entries ≡ most → AreInOrder least most (items ++ item ∷ [])
in_order_more least most [] item order le at = (omega (arith, le, at), omega (arith, at), tt)
in_order_more least most (first ∷ items) item order le at =
    (order.0, order.1, in_order_more first.entries most items item order.2 order.1 at)

one_booked : (entry : BookEntry) → filter_map booked (entry ∷ []) ≡ option_to_list (booked entry)
one_booked (Opened sweep) = refl
one_booked (Withdrawn id) = refl
one_booked (Moved venue note) = refl

-- one entry more is looked at
pub heard_entry : (place : ℕ) (history : List BookEntry) (entry : BookEntry) (items : List Unbooked)
    → AreInOrder place (place + length history) items
    → heard_behind place (history ++ entry ∷ []) items
    ≡ heard_behind place history items ++ option_to_list (booked entry)
heard_entry place history entry [] order =
    filter_map-append booked history (entry ∷ []) ∙ ap (λ l. filter_map booked history ++ l) (one_booked entry)
heard_entry place history entry (item ∷ items) order =
    let k = item.entries - place in
    let from = order.0 in
    let to = order.1 in
    let dropped = length-drop k history in
    let short : k ≤ length history = omega (arith, from, to) in
    let behind : item.entries + length (drop k history) ≡ place + length history = omega (arith, from, to, dropped) in
    let rest = heard_entry item.entries (drop k history) entry items
    (wider item.entries (place + length history) (item.entries + length (drop k history)) items order.2
    (omega (arith, behind))) in
    ap (λ l. filter_map booked l ++ left item ∷ heard_behind item.entries (drop k (history ++ entry ∷ [])) items)
    (take-append-le k history (entry ∷ []) short)
    ∙ ap (λ l. filter_map booked (take k history) ++ left item ∷ heard_behind item.entries l items)
    (drop-append-le k history (entry ∷ []) short)
    ∙ ap (λ l. filter_map booked (take k history) ++ left item ∷ l) rest
    ∙ sym (append_assoc (filter_map booked (take k history))
    (left item ∷ heard_behind item.entries (drop k history) items) (option_to_list (booked entry)))

-- one note more is looked at, that the book didn't take
pub heard_item : (place : ℕ) (history : List BookEntry) (items : List Unbooked) (item : Unbooked)
    → AreInOrder place (place + length history) items → item.entries ≡ place + length history
    → heard_behind place history (items ++ item ∷ []) ≡ heard_behind place history items ++ left item ∷ []
heard_item place history [] item order at =
    let k = item.entries - place in
    let far : length history ≤ k = omega (arith, at) in
    ap (λ l. filter_map booked l ++ left item ∷ filter_map booked (drop k history)) (take_all k history far)
    ∙ ap (λ l. filter_map booked history ++ left item ∷ filter_map booked l) (drop_all k history far)
heard_item place history (first ∷ items) item order at =
    let k = first.entries - place in
    let from = order.0 in
    let to = order.1 in
    let dropped = length-drop k history in
    let behind : first.entries + length (drop k history) ≡ place + length history = omega (arith, from, to, dropped) in
    let rest = heard_item first.entries (drop k history) items item
    (wider first.entries (place + length history) (first.entries + length (drop k history)) items order.2
    (omega (arith, behind))) (omega (arith, behind, at)) in
    ap (λ l. filter_map booked (take k history) ++ left first ∷ l) rest
    ∙ sym (append_assoc (filter_map booked (take k history))
    (left first ∷ heard_behind first.entries (drop k history) items) (left item ∷ []))
