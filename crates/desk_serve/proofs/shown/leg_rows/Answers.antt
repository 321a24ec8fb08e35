use Rattle.std.proofs.Common.{sym, ◌∙◌}
use Rattle.desk_serve.specs.Shown.{row_of}
use Rattle.desk_serve.proofs.Showing.{filtered_more, filtered_same}
use Rattle.desk_serve.proofs.shown.leg_rows.Goals as goal

pub loop-leg-preserved-in-Continue-1 : goal.loop-leg-preserved-in-Continue-1
loop-leg-preserved-in-Continue-1 c =
    filtered_more (row_of c.args.names.now) c.loop-leg.yielded c.in-Some.leg c.in-Some-leg_row.row c.loop-leg.rows.items _
    c.loop-leg.invariant (sym c.leg_row.ensures ∙ c.in-Some-leg_row.is) c.in_ok-push.ensures.items

pub loop-leg-preserved : goal.loop-leg-preserved
loop-leg-preserved c =
    filtered_same (row_of c.args.names.now) c.loop-leg.yielded c.in-Some.leg c.loop-leg.rows.items c.loop-leg.invariant
    (sym c.leg_row.ensures ∙ c.in_default.is)
