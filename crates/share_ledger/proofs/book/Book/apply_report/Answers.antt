use Rattle.std.proofs.Common.{◌≡◌, set, sym, ◌∙◌, subst, arith}
use Rattle.dialect.specs.declared.note.Note.TheVariants as note
use Rattle.share_ledger.specs.declared.applied.Applied.TheVariants as applied
use Rattle.share_ledger.specs.declared.book_entry.BookEntry.TheVariants.{Moved}
use Rattle.share_ledger.specs.Book.{written, answer_to}
use Rattle.share_ledger.specs.Kept.{ChangesLeg, IsNewOn, AreTold}
use Rattle.share_ledger.proofs.KeptChanged.{changed_due}
use Rattle.share_ledger.proofs.Applying.{told_unwritten, told_written}
use Rattle.share_ledger.proofs.book.Book.apply_report.Goals as goal

pub invariant_of-self-in_err-book : goal.invariant_of-self-in_err-book
invariant_of-self-in_err-book c =
    let old = c.self.inside in
    record {
      sums = c.reserve.ensures.kept;
      told =
          subst (AreTold (set old.reports.items c.from.result c.book.new.self)) (sym c.reserve.ensures.seen)
          (told_unwritten old.ledger old.reports.items c.self.invariant c.args.venue c.args.report.now
          c.in-Ok.change.was
          (subst (IsNewOn c.in-Ok.change.was c.args.venue c.args.report.now) (sym c.self.view_is) c.in-Ok.ensures.on)
          c.in-Ok.ensures.there c.index_mut.result.now c.from.result
          (c.from.ensures ∙ c.number.ensures.value) c.index_mut.ensures.value c.book.new.self
          c.in_err-book.ensures.err);
    }

pub settle-requires-clause-room : goal.settle-requires-clause-room
settle-requires-clause-room c =
    let room = c.in_ok-reserve.ensures.room in
    let old = c.self.inside in
    let due = changed_due old.ledger c.args.report.now.id c.in-Ok.change.was c.in-Ok.change.now
    (Moved c.args.venue (note.Report c.args.report.now)) c.self.invariant.sums
    (subst (ChangesLeg c.args.report.now.id c.in-Ok.change.was c.in-Ok.change.now
    (Moved c.args.venue (note.Report c.args.report.now))) (sym c.self.view_is) c.in-Ok.ensures.changes) in
    omega (arith, room, due)

pub invariant_of-self-2 : goal.invariant_of-self-2
invariant_of-self-2 c =
    let old = c.self.inside in
    let copy : c.unwrap.result ≡ c.args.report.now = rw c.unwrap.ensures at c.clone.ensures.cases in
    let seen = c.settle.ensures.seen
    ∙ (λ n. written (Moved c.args.venue (note.Report (copy n))) (c.reserve.ensures.seen n)) in
    record {
      sums = c.settle.ensures.kept;
      told =
          subst (AreTold (set old.reports.items c.from.result c.book.new.self)) (sym seen)
          (told_written old.ledger old.reports.items c.self.invariant c.args.venue c.args.report.now
          c.in-Ok.change.was
          (subst (IsNewOn c.in-Ok.change.was c.args.venue c.args.report.now) (sym c.self.view_is) c.in-Ok.ensures.on)
          c.in-Ok.ensures.there c.index_mut.result.now c.from.result
          (c.from.ensures ∙ c.number.ensures.value) c.index_mut.ensures.value c.book.new.self
          c.in_ok-book.ensures.ok
          (subst (λ b. answer_to b c.args.venue (note.Report c.args.report.now) ≡ applied.Moved) (sym c.self.view_is)
          c.in-Ok.ensures.answer));
    }
