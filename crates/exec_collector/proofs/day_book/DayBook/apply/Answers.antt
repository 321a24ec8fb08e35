use Rattle.std.proofs.Common.{ℕ, Option, Ok, Err, refl, ap, subst, ◌∙◌}
use Rattle.std.specs.Prelude.{IfSome}
use Rattle.leg.specs.Answering.{Answers}
use Rattle.leg_worth.specs.Kept.{worth_at, fill_at, note_change}
use Rattle.share_ledger.specs.Book.{BookParts}
use Rattle.share_ledger.specs.declared.book_fault.BookFault.TheVariants.{OutOfMemory}
use Rattle.exec_collector.specs.Unbooked.{give, without_room}
use Rattle.exec_collector.proofs.Keeping.{beside_given, beside_same, same_twice, words_back}
use Rattle.exec_collector.proofs.day_book.DayBook.apply.Goals as goal

pub invariant_of-self-in-Ok : goal.invariant_of-self-in-Ok
invariant_of-self-in-Ok g c =
    let before = without_room c.self.inside.counted in
    let after = without_room c.apply.new.self in
    let kept = c.prepare.new.self in
    let made = c.in_ok-change.ensures in
    let done = subst (λ (v : Option ℕ). IfSome v (λ venue.
    Answers OutOfMemory before (give before venue c.args.note.now) (Ok c.in-Ok.applied) after))
    c.venue.ensures c.in-Ok.ensures.book in
    beside_given before after c.venue.result c.args.note.now c.in-Ok.applied c.in_ok-change.change
    c.self.inside.beside kept c.settle.new.self c.args.words.now c.self.invariant made.same done.0 done.1
    c.book.ensures.replays made.words
    (made.change ∙ ap (λ (b : BookParts).
    note_change b (worth_at kept.worths) (fill_at kept.worths) c.venue.result c.args.note.now) c.book.ensures.value)
    c.settle.ensures.words c.settle.ensures.legs c.settle.ensures.trades c.settle.ensures.disputed

pub invariant_of-self : goal.invariant_of-self
invariant_of-self g c =
    let before = without_room c.self.inside.counted in
    beside_same before before c.self.inside.beside c.prepare.new.self refl c.prepare.ensures.same
    c.in_err-change.ensures.err c.self.invariant

pub invariant_of-self-in-Err : goal.invariant_of-self-in-Err
invariant_of-self-in-Err g c =
    let before = without_room c.self.inside.counted in
    let after = without_room c.apply.new.self in
    let kept = c.prepare.new.self in
    let made = c.in_ok-change.ensures in
    let done = subst (λ (v : Option ℕ). IfSome v (λ venue.
    Answers OutOfMemory before (give before venue c.args.note.now) (Err c.in-Err.fault) after))
    c.venue.ensures c.in-Err.ensures.book in
    beside_same before after c.self.inside.beside c.take_back.new.self done.1
    (same_twice c.self.inside.beside kept c.take_back.new.self c.prepare.ensures.same c.take_back.ensures.same)
    (words_back c.self.inside.beside.words kept.words c.take_back.new.self.words c.args.words.now made.words
    c.take_back.ensures.words) c.self.invariant
