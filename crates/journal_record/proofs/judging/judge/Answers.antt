use Rattle.std.proofs.Common.{◌≡◌, ◌++◌, ◌∷◌, [], true, None, sym, subst}
use Rattle.journal_record.specs.Reading.{IsUnread, first_line}
use Rattle.journal_record.specs.declared.judging.TextEnd.TheVariants.{Whole, Torn, Damaged}
use Rattle.journal_record.proofs.ReadTo.{read_more, read_on, read_end}
use Rattle.journal_record.proofs.judging.judge.Goals as goal

pub loop-reader-smaller : goal.loop-reader-smaller
loop-reader-smaller c =
    let next = rw c.in-Ok-Some.field-0-is at c.in-Ok-Some.ensures in
    read_on c.loop-reader.reader c.next.new.self c.in-Ok-Some.field-0-0.now next

pub loop-reader-preserved : goal.loop-reader-preserved
loop-reader-preserved c =
    let next = rw c.in-Ok-Some.field-0-is at c.in-Ok-Some.ensures in
    let lines = c.loop-reader.invariant.0 in (
      lines ++ c.in-Ok-Some.field-0-0.now ∷ [],
      read_more c.args.text.now c.loop-reader.reader c.next.new.self lines c.in-Ok-Some.field-0-0.now
          c.loop-reader.invariant.1 next,
    )

pub returns-in-Ok-None : goal.returns-in-Ok-None
returns-in-Ok-None c =
    let next = rw c.in-Ok-None.field-0-is at c.in-Ok-None.ensures in
    read_end c.args.text.now c.loop-reader.reader c.next.new.self c.loop-reader.invariant.0
    c.judged_so_far.result Whole c.loop-reader.invariant.1 next.1 c.judged_so_far.ensures (c.is_at_end.ensures.0 c.if-is_at_end.true)

pub returns-in-Ok-None-2 : goal.returns-in-Ok-None-2
returns-in-Ok-None-2 c =
    let next = rw c.in-Ok-None.field-0-is at c.in-Ok-None.ensures in
    let other = c.if-is_at_end.false in
    let none : first_line c.next.new.self.rest ≡ None = subst (λ r. first_line r.rest ≡ None) (sym next.1) next.0 in
    read_end c.args.text.now c.loop-reader.reader c.next.new.self c.loop-reader.invariant.0
    c.judged_so_far-in-Ok-None-2.result Torn c.loop-reader.invariant.1 next.1 c.judged_so_far-in-Ok-None-2.ensures
    ((λ is. let last : c.is_at_end.result ≡ true = c.is_at_end.ensures.1 is in cc), none)

pub returns-in-Err : goal.returns-in-Err
returns-in-Err c =
    let damaged = c.in-Err.ensures in
    read_end c.args.text.now c.loop-reader.reader c.next.new.self c.loop-reader.invariant.0
    c.judged_so_far-in-Err.result Damaged c.loop-reader.invariant.1 damaged.1 c.judged_so_far-in-Err.ensures
    (subst (λ r. IsUnread r.sum r.rest) (sym damaged.1) damaged.0.0)
