use Rattle.std.proofs.Common.{sym, ◌∙◌}
use Rattle.dialect.proofs.Ordinals.{ordinal_of-zero, ordinal_of-none, ordinal_of-above, ordinal_of-shortest}
use Rattle.dialect.proofs.ordinal.read_ordinal.Goals as goal

pub returns-then-begins_with_zero-clause-value : goal.returns-then-begins_with_zero-clause-value
returns-then-begins_with_zero-clause-value c =
    sym (ordinal_of-zero c.args.greatest c.args.text.now (sym c.if-begins_with_zero.ensures))

pub returns-in_err-number-clause-value : goal.returns-in_err-number-clause-value
returns-in_err-number-clause-value c =
    c.from_residual.ensures ∙ sym (ordinal_of-none c.args.greatest c.args.text.now (sym c.in_err-number.ensures))

pub returns-then-number-greatest-clause-value : goal.returns-then-number-greatest-clause-value
returns-then-number-greatest-clause-value c =
    sym (ordinal_of-above c.args.greatest c.args.text.now c.in_ok-number.number (sym c.in_ok-number.ensures) c.if-number-greatest.true)

pub returns-clause-value : goal.returns-clause-value
returns-clause-value c =
    sym (ordinal_of-shortest c.args.greatest c.args.text.now c.in_ok-number.number (sym c.if-begins_with_zero.ensures) (sym c.in_ok-number.ensures) c.if-number-greatest.false).0

pub returns-clause-low : goal.returns-clause-low
returns-clause-low c =
    (ordinal_of-shortest c.args.greatest c.args.text.now c.in_ok-number.number (sym c.if-begins_with_zero.ensures) (sym c.in_ok-number.ensures) c.if-number-greatest.false).1
