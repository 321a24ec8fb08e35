use Rattle.std.proofs.Common.{rules, ◌≡◌, List, length, map, ap, ◌∙◌, arith}
use Rattle.leg.specs.declared.sweep.Routed.{Routed}
use Rattle.share_ledger.specs.declared.book_entry.BookEntry.TheVariants.{Moved}
use Rattle.share_ledger.specs.Book.{new_book, replay}
use Rattle.sweep_release.specs.Desk.{DeskParts}
use Rattle.replay.proofs.BookAgain.{openings, opened_first, venue_further}
use Rattle.replay.proofs.book_again.book_again.Goals as goal

pub loop-number-init : goal.loop-number-init
loop-number-init g c =
    let w = c.args.world.now in
    let is : c.in-Ok.book ≡ new_book (length w.venues) = search rules in
    opened_first w c.in-Ok.book c.open_all.new.book is
    (c.in_ok-open_all.ensures
    ∙ (ap (λ (l : List (List Routed)). replay c.in-Ok.book (openings l)) c.history.ensures.sweeps
    ∙ ap (λ (d : DeskParts). replay c.in-Ok.book (openings d.sweeps)) c.desk.ensures))

pub loop-number-preserved : goal.loop-number-preserved
loop-number-preserved g c =
    let w = c.args.world.now in
    let count = c.venues-count.ensures.value in
    let low = c.loop-number-test.true in
    venue_further w c.loop-number.book c.apply_all.new.book c.withdraw_all.new.book _ c.loop-number.number
    c.venue_number-venue.result c.venue_number-venue.ensures (omega (arith, count, low))
    (c.in_ok-apply_all.ensures
    ∙ ap (λ l. replay c.loop-number.book (map (Moved c.venue_number-venue.result) l)) c.given.ensures)
    c.withdraw_all.ensures c.loop-number.invariant
