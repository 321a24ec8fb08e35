use Rattle.std.proofs.Common.{rules, ◌≡◌, ◌+◌, ◌*◌, ◌^◌, ◌≤◌, length, Ok, Err, Result, [], ◌∷◌, ◌++◌, sym, subst, ap, ◌∙◌}
use Rattle.share_ledger.specs.Entries.{sweep_shares}
use Rattle.sweep_release.specs.declared.receipt.Receipt.{Receipt}
use Rattle.sweep_release.specs.declared.release_fault.ReleaseFault.{ReleaseFault}
use Rattle.sweep_release.specs.History.{KeptDesk}
use Rattle.sweep_release.proofs.Answered.{err_is}
use Rattle.order_limits.specs.Day.{with_sweep}
use Rattle.release_lock.specs.Locked.{Replays, Places, day_dollars}
use Rattle.release_lock.specs.Seats.{placing}
use Rattle.release_lock.proofs.Siding.{placed_side}
use Rattle.release_lock.proofs.Placing.{outcome, released_locked, released_book, same_locked, same_book}
use Rattle.release_lock.proofs.NotedSweeps.{same_noted, placed_noted}
use Rattle.release_lock.proofs.DayDollars.{day_more, same_dollars, released_dollars}
use Rattle.release_lock.proofs.locked_desk.LockedDesk.place_sweep.Goals as goal

pub invariant_of-self : goal.invariant_of-self
invariant_of-self g c =
    let gave = c.in_err-receipt.ensures in
    let places : Places c.args.sweep.legs c.self.inside.desk (Err c.in_err-receipt.field-0.0) c.lend_beside.new.beside =
    record { book = gave.0; book_after = gave.1; placed = search rules } in (
      same_locked g.L.Run.queues c.self.inside.desk c.lend_beside.new.beside c.self.inside.total.total
          c.self.inside.feeds.items c.self.invariant.0
          (outcome c.args.sweep.legs c.self.inside.desk c.lend_beside.new.beside (Err c.in_err-receipt.field-0.0) places),
      placed_side c.self.inside.desk c.lend_beside.new.beside gave.0 gave.1 c.args.sweep.legs
          (Err c.in_err-receipt.field-0.0) places.placed c.requires.1.1.1.1.0 gave.3 gave.4 c.self.invariant.1,
      same_book c.self.inside.desk c.lend_beside.new.beside
          (outcome c.args.sweep.legs c.self.inside.desk c.lend_beside.new.beside (Err c.in_err-receipt.field-0.0) places)
          c.self.invariant.2,
      same_noted c.self.inside.desk c.lend_beside.new.beside (g.J.Telling.told c.self.inside.journal)
          (outcome c.args.sweep.legs c.self.inside.desk c.lend_beside.new.beside (Err c.in_err-receipt.field-0.0) places)
          c.self.invariant.3,
      same_dollars c.self.inside.desk c.lend_beside.new.beside c.self.inside.dollars
          (outcome c.args.sweep.legs c.self.inside.desk c.lend_beside.new.beside (Err c.in_err-receipt.field-0.0) places)
          c.self.invariant.4,
    )

pub returns-in_err-receipt-clause-placed : goal.returns-in_err-receipt-clause-placed
returns-in_err-receipt-clause-placed g c =
    let gave = c.in_err-receipt.ensures in
    let places : Places c.args.sweep.legs c.self.inside.desk (Err c.in_err-receipt.field-0.0) c.lend_beside.new.beside =
    record { book = gave.0; book_after = gave.1; placed = search rules } in
    let handed_on = err_is c.from_residual.result _ c.from_residual.ensures.0 c.from_residual.ensures.1 in
    subst (λ (r : Result Receipt ReleaseFault). Places c.args.sweep.legs c.args.self.now r c.lend_beside.new.beside)
    (sym handed_on)
    (subst (λ (d : KeptDesk). Places c.args.sweep.legs d (Err c.in_err-receipt.field-0.0) c.lend_beside.new.beside)
    c.self.view_is places)

pub returns-in_err-receipt-clause-replays : goal.returns-in_err-receipt-clause-replays
returns-in_err-receipt-clause-replays g c =
    let gave = c.in_err-receipt.ensures in
    let places : Places c.args.sweep.legs c.self.inside.desk (Err c.in_err-receipt.field-0.0) c.lend_beside.new.beside =
    record { book = gave.0; book_after = gave.1; placed = search rules } in
    let now = same_locked g.L.Run.queues c.self.inside.desk c.lend_beside.new.beside c.self.inside.total.total
    c.self.inside.feeds.items c.self.invariant.0
    (outcome c.args.sweep.legs c.self.inside.desk c.lend_beside.new.beside (Err c.in_err-receipt.field-0.0) places) in
    (subst Replays c.self.view_is c.self.invariant.0.replays, now.replays)

pub count-requires : goal.count-requires
count-requires g c κs within =
    let gave = c.in_ok-receipt.ensures in
    let places : Places c.args.sweep.legs c.self.inside.desk (Ok c.in_ok-receipt.receipt) c.lend_beside.new.beside =
    record { book = gave.0; book_after = gave.1; placed = search rules } in
    let it = outcome c.args.sweep.legs c.self.inside.desk c.lend_beside.new.beside (Ok c.in_ok-receipt.receipt) places in (
      search rules,
      (c.self.invariant.2.named, ap (λ r. r.shares) it.receipt_is ∙ ap sweep_shares (sym c.requires.1.1.1.1.1.0)),
    )

pub returns-clause-noted : goal.returns-clause-noted
returns-clause-noted g c =
    c.count.ensures.placed
    ∙ ap (λ legs. c.args.seat.now.placed ++ placing c.in_ok-receipt.receipt.number legs ∷ []) c.requires.1.1.1.1.1.0

pub invariant_of-self-2 : goal.invariant_of-self-2
invariant_of-self-2 g c =
    let gave = c.in_ok-receipt.ensures in
    let places : Places c.args.sweep.legs c.self.inside.desk (Ok c.in_ok-receipt.receipt) c.lend_beside.new.beside =
    record { book = gave.0; book_after = gave.1; placed = search rules } in
    let it = outcome c.args.sweep.legs c.self.inside.desk c.lend_beside.new.beside (Ok c.in_ok-receipt.receipt) places in (
      released_locked g.L.Run.queues c.args.sweep.legs c.self.inside.desk c.in_ok-receipt.receipt
          c.lend_beside.new.beside c.self.inside.total.total c.count.new.total.total c.self.inside.feeds.items
          c.self.invariant.0 it c.count.ensures.total,
      placed_side c.self.inside.desk c.lend_beside.new.beside gave.0 gave.1 c.args.sweep.legs
          (Ok c.in_ok-receipt.receipt) places.placed c.requires.1.1.1.1.0 gave.3 gave.4 c.self.invariant.1,
      released_book c.args.sweep.legs c.self.inside.desk c.in_ok-receipt.receipt c.lend_beside.new.beside it
          c.count.ensures.book.0
          (c.count.ensures.book.1
          ∙ ap (λ legs. c.self.inside.book.given ++ placing c.in_ok-receipt.receipt.number legs ∷ []) c.requires.1.1.1.1.1.0)
          c.self.invariant.2,
      placed_noted c.args.sweep.legs c.self.inside.desk c.in_ok-receipt.receipt c.lend_beside.new.beside
          c.args.asked.now.stamp c.args.asked.now.line.now (g.J.Telling.told c.self.inside.journal)
          (g.J.Telling.told c.note_placed.new.journal) c.note_placed.ensures.within it c.note_placed.ensures.told
          c.note_placed.ensures.kept c.self.invariant.3,
      released_dollars c.args.sweep.legs c.self.inside.desk c.in_ok-receipt.receipt c.lend_beside.new.beside it
          c.self.inside.dollars c.args.day c.self.invariant.4
          (subst (λ (d : KeptDesk). c.args.day ≡ with_sweep (day_dollars d) c.args.sweep.legs) (sym c.self.view_is)
          c.requires.1.1.1.1.1.1.0)
          (subst (λ (d : KeptDesk). c.args.day.ten_thousandths
          ≤ (day_dollars d).ten_thousandths + 10 ^ 16 * length c.args.sweep.legs) (sym c.self.view_is)
          c.requires.1.1.1.1.1.1.1),
    )

pub returns-clause-placed : goal.returns-clause-placed
returns-clause-placed g c =
    let gave = c.in_ok-receipt.ensures in
    let places : Places c.args.sweep.legs c.self.inside.desk (Ok c.in_ok-receipt.receipt) c.lend_beside.new.beside =
    record { book = gave.0; book_after = gave.1; placed = search rules } in
    subst (λ (d : KeptDesk). Places c.args.sweep.legs d (Ok c.in_ok-receipt.receipt) c.lend_beside.new.beside)
    c.self.view_is places

pub returns-clause-replays : goal.returns-clause-replays
returns-clause-replays g c =
    let gave = c.in_ok-receipt.ensures in
    let places : Places c.args.sweep.legs c.self.inside.desk (Ok c.in_ok-receipt.receipt) c.lend_beside.new.beside =
    record { book = gave.0; book_after = gave.1; placed = search rules } in
    let it = outcome c.args.sweep.legs c.self.inside.desk c.lend_beside.new.beside (Ok c.in_ok-receipt.receipt) places in
    let now = released_locked g.L.Run.queues c.args.sweep.legs c.self.inside.desk c.in_ok-receipt.receipt
    c.lend_beside.new.beside c.self.inside.total.total c.count.new.total.total c.self.inside.feeds.items
    c.self.invariant.0 it c.count.ensures.total in
    (subst Replays c.self.view_is c.self.invariant.0.replays, now.replays)

pub returns-clause-seat : goal.returns-clause-seat
returns-clause-seat g c =
    let gave = c.in_ok-receipt.ensures in
    let places : Places c.args.sweep.legs c.self.inside.desk (Ok c.in_ok-receipt.receipt) c.lend_beside.new.beside =
    record { book = gave.0; book_after = gave.1; placed = search rules } in
    let it = outcome c.args.sweep.legs c.self.inside.desk c.lend_beside.new.beside (Ok c.in_ok-receipt.receipt) places in
    (ap (λ r. r.shares) it.receipt_is, c.count.ensures.seat)

pub returns-clause-dollars : goal.returns-clause-dollars
returns-clause-dollars g c =
    let gave = c.in_ok-receipt.ensures in
    let places : Places c.args.sweep.legs c.self.inside.desk (Ok c.in_ok-receipt.receipt) c.lend_beside.new.beside =
    record { book = gave.0; book_after = gave.1; placed = search rules } in
    let it = outcome c.args.sweep.legs c.self.inside.desk c.lend_beside.new.beside (Ok c.in_ok-receipt.receipt) places in
    day_more c.args.sweep.legs c.self.inside.desk c.in_ok-receipt.receipt c.lend_beside.new.beside it
    ∙ (ap (λ d. with_sweep (day_dollars d) c.args.sweep.legs) c.self.view_is
    ∙ sym c.requires.1.1.1.1.1.1.0)
