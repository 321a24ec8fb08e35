use Rattle.std.proofs.Common.{◌≡◌, ◌∙◌, ◌*◌, ◌≤◌, sym, ap, arith}
use Rattle.std.proofs.lemmas.Nat.{mul-le}
use Rattle.exec_collector.specs.Seats.{shares_of}
use Rattle.live_load.specs.Day.{shares_each}
use Rattle.live_load.proofs.CallersLeft.{sums_of}
use Rattle.live_load.proofs.running.told.Goals as goal

pub parted-requires : goal.parted-requires
parted-requires g c =
    let plan = c.args.plan in
    let sums = sums_of (λ e. e.seat) (λ e. e.unplaced) c.args.called.items in
    let counted = sums.1 in
    let few = c.requires.callers.few in
    let most : plan.callers * plan.sweeps ≤ 64 * 1000000 =
    mul-le plan.callers plan.sweeps 64 1000000 c.requires.plan.callers c.requires.plan.sweeps in
    omega (arith, counted, few, most)

pub returns-clause-placed : goal.returns-clause-placed
returns-clause-placed g c =
    let plan = c.args.plan in
    let sums = sums_of (λ e. e.seat) (λ e. e.unplaced) c.args.called.items in
    let total = c.requires.callers.shares in
    let placed : c.in_ok-day.day.report.placed ≡ shares_of c.in_ok-seats.seats.items = c.in_ok-day.ensures.placed c.requires.page in
    let seats = ap shares_of c.in_ok-seats.ensures.0 ∙ sym sums.2 in
    let unplaced = c.in_ok-seats.ensures.1 ∙ sym sums.1 in
    let each = ap (λ n. n * shares_each plan) unplaced in
    omega (arith, total, placed, seats, each)

pub returns-clause-audited : goal.returns-clause-audited
returns-clause-audited g c = c.in_ok-day.ensures.told.audited
