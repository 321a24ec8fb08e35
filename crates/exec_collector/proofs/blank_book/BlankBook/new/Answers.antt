use Rattle.std.proofs.Common.{[], ◌∷◌, length, ap, sym, subst, ◌∙◌, arith}
use Rattle.std.proofs.lemmas.List.{length-append}
use Rattle.exec_collector.specs.declared.blank_book.BlankList.{BlankList}
use Rattle.exec_collector.specs.Blank.{AreBlank}
use Rattle.exec_collector.proofs.Blank.{blank-push}
use Rattle.exec_collector.proofs.Counts.{venue_is}
use Rattle.exec_collector.proofs.blank_book.BlankBook.new.Goals as goal

pub loop-number-preserved : goal.loop-number-preserved
loop-number-preserved c =
    let so_far = c.loop-number.invariant in
    let lists = c.loop-number.lists.items in
    let made : BlankList = record {
      venue = c.in-Ok.venue;
      book = c.new_list-book.result.0;
      seat = c.new_list-book.result.1;
    } in
    let more = c.push_reserved.ensures.items in
    let venue = venue_is c.loop-number.number c.in-Ok.venue (sym c.new.ensures ∙ c.in-Ok.is) in
    let one = length-append lists (made ∷ []) in
    let longer = ap length more in
    let count = so_far.0 in
    let room = so_far.2 in
    let same = c.push_reserved.ensures.capacity in (
      omega (arith, one, longer, count),
      subst (AreBlank 0) (sym more)
          (blank-push 0 lists made so_far.1
          (record {
            of_venue = omega (arith, venue, count);
            same = sym c.new_list-book.ensures.name;
            in_book = c.new_list-book.ensures.items.0;
            on_seat = c.new_list-book.ensures.items.1;
          })),
      omega (arith, room, same),
    )
