use Rattle.std.proofs.Common.{arith}
use Rattle.dialect.proofs.DigitsRead.{digits-pushed}
use Rattle.dialect.proofs.digits.+append_digits.Goals as goal

pub returns-then-width-gt0-clause-value : goal.returns-then-width-gt0-clause-value
returns-then-width-gt0-clause-value g n c =
    let whole = digits-pushed c.args.base c.args.width c.args.number c.args.text.now.items c.if-width-gt0.true in
    grind (arith, whole, c.push.ensures.items, c.append_digits.ensures.value, c.digit.ensures)
