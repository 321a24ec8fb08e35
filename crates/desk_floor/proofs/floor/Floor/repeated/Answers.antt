use Rattle.std.proofs.Common.{Some, sym}
use Rattle.desk_floor.proofs.Known.{answered_again, is_free}
use Rattle.desk_floor.proofs.floor.Floor.repeated.Goals as goal

pub returns-clause-answer : goal.returns-clause-answer
returns-clause-answer g c =
    answered_again (Some c.args.self.now.limits) c.args.self.now.names.items c.args.self.now.manner.wants_refs
    c.deref.result.now.book.placed c.args.submission.now c.in_ok-reference.reference.now c.answer.result
    (sym c.in_ok-reference.ensures.value) c.answer.ensures.distinct (rw (← c.as_slice.ensures) c.answer.ensures.known)

pub returns-clause-free : goal.returns-clause-free
returns-clause-free g c =
    is_free c.deref.result.now.book.placed c.args.submission.now c.in_ok-reference.reference.now c.answer.result
    (sym c.in_ok-reference.ensures.value) c.answer.ensures.distinct
    (rw (← c.as_slice.ensures) c.answer.ensures.known)
