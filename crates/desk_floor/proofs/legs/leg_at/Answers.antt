use Rattle.std.proofs.Common.{sym, ◌∙◌, arith, rules}
use Rattle.desk_floor.proofs.Rising.{leg_found, there_at}
use Rattle.desk_floor.proofs.legs.leg_at.Goals as goal

pub returns : goal.returns
returns c =
    let there = c.in-Some.ensures.lookup in
    let low = there.3.0 in
    let counted = c.saturating_add.ensures in
    leg_found c.args.id c.args.legs.now c.args.place c.saturating_add.result c.in-Some.leg.now c.in_ok-clone.field-0
    (there_at c.args.legs.now c.args.place c.in-Some.leg.now low there.1) (sym c.if-ne.false ∙ c.ne.ensures)
    (search rules) (omega (arith, low, counted))
