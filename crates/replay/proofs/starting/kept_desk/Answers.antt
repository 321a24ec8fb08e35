use Rattle.std.proofs.Common.{◌≡◌, ◌≤◌, ◌<◌, ◌-◌, ℕ, List, length, take, true, false, sym, ap, subst, ◌∙◌, arith}
use Rattle.std.specs.Option.{is_none}
use Rattle.replay.proofs.DayStarts.{may_by, may_not}
use Rattle.replay.proofs.starting.kept_desk.Goals as goal

pub returns-then-placed-sweeps-clause-rules : goal.returns-then-placed-sweeps-clause-rules
returns-then-placed-sweeps-clause-rules g c =
    let placed = c.sweeps_placed-placed.ensures in
    let many = c.if-placed-sweeps.true in
    may_not c.args.max_number c.args.world.now c.args.journals.now c.args.sweeps c.args.lines.now
    (omega (arith, placed, many))

pub returns-in-Some-clause-rules : goal.returns-in-Some-clause-rules
returns-in-Some-clause-rules g c =
    let w = c.args.world.now in
    let placed = c.sweeps_placed-placed.ensures in
    let few = c.if-placed-sweeps.false in
    may_by c.args.max_number w c.args.journals.now c.args.sweeps c.args.lines.now c.in_ok-desk.desk.desk.sweeps false
    (omega (arith, placed, few))
    (c.in_ok-desk.ensures.sweeps ∙ ap (λ n. take (n - c.args.sweeps) w.desk.sweeps) placed)
    (ap is_none (sym c.in-Some.is) ∙ c.in_ok-fault.ensures.rules)

pub returns-in-None-clause-rules : goal.returns-in-None-clause-rules
returns-in-None-clause-rules g c =
    let w = c.args.world.now in
    let placed = c.sweeps_placed-placed.ensures in
    let few = c.if-placed-sweeps.false in
    may_by c.args.max_number w c.args.journals.now c.args.sweeps c.args.lines.now c.in_ok-desk.desk.desk.sweeps true
    (omega (arith, placed, few))
    (c.in_ok-desk.ensures.sweeps ∙ ap (λ n. take (n - c.args.sweeps) w.desk.sweeps) placed)
    (ap is_none (sym c.in-None.is) ∙ c.in_ok-fault.ensures.rules)

pub returns-in-None-clause-sweeps : goal.returns-in-None-clause-sweeps
returns-in-None-clause-sweeps g c =
    c.in_ok-desk.ensures.sweeps
    ∙ ap (λ n. take (n - c.args.sweeps) c.args.world.now.desk.sweeps) c.sweeps_placed-placed.ensures
