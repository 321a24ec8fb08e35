use Rattle.std.proofs.Common.{sym, ◌∙◌}
use Rattle.leg_worth.proofs.Bounds.{kept_few}
use Rattle.leg_worth.proofs.worths.Worths.trade_change.Goals as goal

pub with-requires-clause-within : goal.with-requires-clause-within
with-requires-clause-within c =
    (kept_few c.args.book.now c.args.report.now.id c.leg-2.result c.in_ok-leg.leg
    (c.leg-2.ensures ∙ c.requires.legs c.args.report.now.id) (sym c.in_ok-leg.ensures.value)
    c.in_ok-leg.ensures.in_range).0

pub with-requires-clause-few : goal.with-requires-clause-few
with-requires-clause-few c =
    (kept_few c.args.book.now c.args.report.now.id c.leg-2.result c.in_ok-leg.leg
    (c.leg-2.ensures ∙ c.requires.legs c.args.report.now.id) (sym c.in_ok-leg.ensures.value)
    c.in_ok-leg.ensures.in_range).1
