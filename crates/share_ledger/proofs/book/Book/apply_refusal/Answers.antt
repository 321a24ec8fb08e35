use Rattle.std.proofs.Common.{◌≡◌, Ok, refl, ap, sym, ◌∙◌, subst}
use Rattle.dialect.specs.declared.note.Note.TheVariants as note
use Rattle.share_ledger.specs.declared.applied.Applied.TheVariants as applied
use Rattle.share_ledger.specs.declared.book_entry.BookEntry.TheVariants.{Moved}
use Rattle.share_ledger.specs.Book.{written, answer_to}
use Rattle.share_ledger.specs.Kept.{ChangesLeg, AreTold, ledger_seen}
use Rattle.share_ledger.proofs.KeptTold.{told_refused}
use Rattle.share_ledger.proofs.KeptMoved.{ApplyAnswers, answers_moved}
use Rattle.share_ledger.proofs.Applying.{same_venue, wants, refusal_moves, refusal_changes}
use Rattle.share_ledger.proofs.book.Book.apply_refusal.Goals as goal

pub returns-in_err-reserve-clause-wanting : goal.returns-in_err-reserve-clause-wanting
returns-in_err-reserve-clause-wanting c =
    let old = c.self.inside in
    let kept = sym c.leg.ensures.value ∙ c.in-Some.is in
    let there = sym c.is_withdrawn.ensures.value ∙ c.if-is_withdrawn.false in
    let moved = refusal_moves old.ledger c.self.invariant.sums c.args.venue c.args.id c.in-Some.was kept
    c.in-Some.ensures.in_range
    (same_venue c.in-Some.was.venue c.args.venue (sym c.ne.ensures ∙ c.if-ne.false)) there in
    wants _ _ (subst (λ b. answer_to b c.args.venue (note.Refused c.args.id) ≡ applied.Moved) c.self.view_is moved)

pub settle-requires-clause-change : goal.settle-requires-clause-change
settle-requires-clause-change c =
    let old = c.self.inside in
    let kept = sym c.leg.ensures.value ∙ c.in-Some.is in
    let there = sym c.is_withdrawn.ensures.value ∙ c.if-is_withdrawn.false in
    subst (ChangesLeg c.args.id c.in-Some.was (record { venue = c.in-Some.was.venue; parts = c.cancel_rest.new.self })
    (Moved c.args.venue (note.Refused c.args.id))) (sym c.reserve.ensures.seen)
    (refusal_changes old.ledger c.self.invariant.sums c.args.venue c.args.id c.in-Some.was kept
    c.in-Some.ensures.in_range
    (same_venue c.in-Some.was.venue c.args.venue (sym c.ne.ensures ∙ c.if-ne.false)) there _ refl
    c.cancel_rest.ensures.step)

pub invariant_of-self-2 : goal.invariant_of-self-2
invariant_of-self-2 c =
    let old = c.self.inside in
    let entry = Moved c.args.venue (note.Refused c.args.id) in
    record {
      sums = c.settle.ensures.kept;
      told =
          subst (AreTold old.reports.items)
          (ap (written entry) (sym c.reserve.ensures.seen) ∙ sym c.settle.ensures.seen)
          (told_refused old.reports.items (ledger_seen old.ledger) c.args.venue c.args.id c.self.invariant.told);
    }

pub returns-clause-answer : goal.returns-clause-answer
returns-clause-answer c =
    let old = c.self.inside in
    let kept = sym c.leg.ensures.value ∙ c.in-Some.is in
    let there = sym c.is_withdrawn.ensures.value ∙ c.if-is_withdrawn.false in
    let moved = refusal_moves old.ledger c.self.invariant.sums c.args.venue c.args.id c.in-Some.was kept
    c.in-Some.ensures.in_range
    (same_venue c.in-Some.was.venue c.args.venue (sym c.ne.ensures ∙ c.if-ne.false)) there in
    let entry = Moved c.args.venue (note.Refused c.args.id) in
    subst (λ b. ApplyAnswers b c.args.venue (note.Refused c.args.id) (Ok applied.Moved) (ledger_seen c.settle.new.self))
    c.self.view_is
    (answers_moved (ledger_seen old.ledger) c.args.venue (note.Refused c.args.id) (ledger_seen c.settle.new.self) moved
    (c.settle.ensures.seen ∙ ap (written entry) c.reserve.ensures.seen))
