use Rattle.std.proofs.Common.{◌≡◌, length, replicate, refl, ap, ◌∙◌, arith}
use Rattle.sweep_release.proofs.Fresh.{kept_new, all_seen}
use Rattle.sweep_release.specs.declared.gate.Gate.TheVariants.{Down}
use Rattle.sweep_release.specs.Desk.{DeskVenue}
use Rattle.sweep_release.specs.Kept.{released_sweeps}
use Rattle.sweep_release.proofs.desk.Desk.new.Goals as goal

pub invariant_of-result : goal.invariant_of-result
invariant_of-result c =
    let count = c.loop.invariant.count in
    kept_new _ c.loop.invariant.fresh c.in_ok-with_capacity.ensures.items refl refl
    (omega (arith, count, c.loop-test.false, c.loop.auto.counter-end))
    refl (omega (arith, c.in_ok-with_capacity.ensures.len, c.in_ok-with_capacity.ensures.capacity))
    (omega (arith, count, c.loop-test.false, c.loop.auto.counter-end, c.from-count.ensures, c.requires.high))

pub returns-clause-ok : goal.returns-clause-ok
returns-clause-ok c =
    let count = c.loop.invariant.count in
    let empty = c.in_ok-with_capacity.ensures.items in
    let all : length c.loop.list.items ≡ c.args.venues = omega (arith, count, c.loop-test.false, c.loop.auto.counter-end, c.from-count.ensures) in
    let venues = all_seen c.loop.list.items c.loop.invariant.fresh ∙ ap (λ n. replicate n (let v : DeskVenue = record { gate = Down; left = 0 } in v)) all in
    λ k. record { desk = record { sweeps = released_sweeps (empty k); venues = venues k }; history = empty k }
