use Rattle.std.proofs.Common.{sym, ◌∙◌}
use Rattle.dialect.proofs.DigitsRead.{past}
use Rattle.dialect.proofs.digits.read_digits.Goals as goal

pub returns-then-number-greatest-clause-value : goal.returns-then-number-greatest-clause-value
returns-then-number-greatest-clause-value c =
    sym (past c.args.base c.args.greatest c.loop-byte.number c.in_ok-number.field-0 c.loop-byte.byte-index c.args.text.now c.requires.low c.loop-byte-test.true (sym c.in_ok-number.ensures.value) c.if-number-greatest.true)
    ∙ c.loop-byte.invariant.1
