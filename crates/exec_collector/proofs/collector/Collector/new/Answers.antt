use Rattle.std.proofs.Common.{◌≡◌, List, [], ◌∷◌, length, rules, refl, ap, sym, subst, ◌∙◌, arith}
use Rattle.std.proofs.lemmas.List.{length-append}
use Rattle.exec_collector.specs.Resolved.{resolved, Replays}
use Rattle.exec_collector.specs.Blank.{BlankParts}
use Rattle.exec_collector.specs.Opened.{sweeps_of}
use Rattle.exec_collector.specs.Seats.{worker_seats}
use Rattle.exec_collector.specs.Sides.{AreWritten, AreListed}
use Rattle.exec_collector.specs.Unbooked.{IsListOf}
use Rattle.exec_collector.specs.declared.unbooked.Unbooked.{Unbooked}
use Rattle.share_ledger.specs.Entries.{opened}
use Rattle.share_ledger.specs.Book.{BookParts, new_book}
use Rattle.exec_collector.proofs.Counts.{resolved_new}
use Rattle.exec_collector.proofs.Opening.{seats_length, side_of, next_blank, next_named, opened_next, all_opened}
use Rattle.exec_collector.proofs.collector.Collector.new.Goals as goal

pub new-requires-in-Some-clause-list : goal.new-requires-in-Some-clause-list
new-requires-in-Some-clause-list g c =
    let so_far = c.loop-list.invariant.0 in
    let rest = c.pop_front.new.self.items in
    let is = c.in-Some.ensures.items in
    (next_named c.in-Some.list rest is so_far, (next_blank c.in-Some.list rest is so_far).on_seat)

pub push_reserved-requires-in-Some : goal.push_reserved-requires-in-Some
push_reserved-requires-in-Some g c =
    let so_far = c.loop-list.invariant.0 in
    let many = ap length so_far.seats_are in
    let count = seats_length (length c.loop-list.bookings.items) in
    let left = ap length c.in-Some.ensures.items in
    let sum = c.loop-list.invariant.3 in
    let room = c.loop-list.invariant.5 in
    let length_is = c.loop-list.seats.ok.0 in
    omega (arith, many, count, left, sum, room, length_is)

pub loop-list-preserved : goal.loop-list-preserved
loop-list-preserved g c =
    let so_far = c.loop-list.invariant in
    let left = ap length c.in-Some.ensures.items in
    let more = c.push_reserved.ensures.items in
    let longer = ap length more in
    let one = length-append c.loop-list.bookings.items (side_of c.in-Some.list ∷ []) in
    let parts = c.split_off.ensures.parts_left in
    let amount = c.split_off.ensures.amount_left in
    let whole = so_far.1 in
    let none = so_far.2 in
    let sum = so_far.3 in
    let room = so_far.4 in
    let same = c.push_reserved.ensures.capacity in
    let seat_room = so_far.5 in
    let seat_same = c.push_reserved-in-Some.ensures.capacity in (
      opened_next c.in-Some.list c.pop_front.new.self.items c.push_reserved.new.self.items
          c.push_reserved-in-Some.new.self.items c.new-in-Some.result c.in-Some.ensures.items more
          c.push_reserved-in-Some.ensures.items c.new-in-Some.ensures so_far.0,
      omega (arith, parts, whole, left),
      omega (arith, amount, none),
      omega (arith, longer, one, left, sum),
      omega (arith, room, same),
      omega (arith, seat_room, seat_same),
    )

pub invariant_of-counted : goal.invariant_of-counted
invariant_of-counted g c =
    let book = c.in_ok-book.book in
    let new : book ≡ new_book c.args.venues = c.in_ok-book.ensures.ok in
    let venues = ap (λ (b : BookParts). b.venues) new in
    let done = c.loop-list.invariant.0 in
    let sides = c.loop-list.bookings.items in
    let empty = c.in_default.ensures.cases.0 in
    let length_is = c.loop-list.lists.ok.0 in
    let none : c.new-2.result.items ≡ [] = search rules in (
      sym venues,
      c.requires.high,
      subst Replays (sym new) refl,
      c.open-total.ensures.total ∙ sym (ap resolved new ∙ resolved_new c.args.venues),
      all_opened (omega (arith, empty, length_is)) done,
      subst (λ (b : BookParts). AreWritten b 0 sides) (sym new) done.written,
      record {
        named = ap (λ (b : BlankParts). b.sweeps) c.blank.view_is ∙ c.requires.lists.1;
        opens = c.blank.invariant.3 ∙ ap (λ (b : BookParts). sweeps_of (opened b.entries)) (sym new);
      },
      subst (λ (l : List Unbooked). AreListed l 0 sides) (sym none) done.unbooked,
      subst (IsListOf book) (sym none) tt,
    )

pub returns-clause-seats : goal.returns-clause-seats
returns-clause-seats g c =
    let so_far = c.loop-list.invariant in
    let sum = so_far.3 in
    let empty = c.in_default.ensures.cases.0 in
    let length_is = c.loop-list.lists.ok.0 in
    let count : length c.loop-list.bookings.items ≡ c.args.venues = omega (arith, sum, empty, length_is) in
    so_far.0.seats_are ∙ ap worker_seats count
