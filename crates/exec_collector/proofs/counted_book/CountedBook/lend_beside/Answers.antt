use Rattle.std.proofs.Common.{rules, sym, subst, ◌∙◌}
use Rattle.exec_collector.specs.Calls.{CallGives}
use Rattle.exec_collector.specs.Unbooked.{KeptCounted}
use Rattle.exec_collector.proofs.Booked.{written-opened}
use Rattle.exec_collector.proofs.Listing.{list-opened}
use Rattle.exec_collector.proofs.Counts.{only_opened}
use Rattle.exec_collector.proofs.counted_book.CountedBook.lend_beside.Goals as goal

pub invariant_of-self : goal.invariant_of-self
invariant_of-self g c =
    let kept = c.self.invariant in
    let only = c.requires.opens c.args.beside.now c.self.inside.book c.f-given.result c.f-given.new.arg2
    c.f-given.new.arg3 (search rules) in
    let after = only_opened c.self.inside.book c.f-given.new.arg3 kept.2
    only in (
      kept.0 ∙ sym after.venues,
      kept.1,
      after.replays,
      kept.3 ∙ sym after.counts,
      kept.4,
      written-opened c.self.inside.book c.f-given.new.arg3 c.self.inside.bookings.items kept.2 only kept.5,
      record {
        named = c.keep_opened.ensures.book.0 ∙ kept.6.named;
        opens = c.keep_opened.ensures.book.1;
      },
      kept.7,
      list-opened c.self.inside.book c.f-given.new.arg3 c.self.inside.unbooked.items only kept.8,
    )

pub returns-clause-call : goal.returns-clause-call
returns-clause-call g c =
    let call : CallGives g.F.FnOnce c.args.f c.args.beside.now c.self.inside.book c.f-given.result c.f-given.new.arg2
    c.f-given.new.arg3 = search rules in
    subst (λ (b : KeptCounted). CallGives g.F.FnOnce c.args.f c.args.beside.now b.book c.f-given.result
    c.f-given.new.arg2 c.f-given.new.arg3) c.self.view_is call
