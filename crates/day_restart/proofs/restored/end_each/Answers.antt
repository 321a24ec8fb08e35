use Rattle.std.proofs.Common.{◌≡◌, ◌<◌, get_or, length, refl, sym, subst, ◌∙◌, arith}
use Rattle.std.proofs.lemmas.Option.{slice_get-get_or, slice_get_read}
use Rattle.day_restart.proofs.Places.{EndedTo, all_ended, none_ended, one_ended}
use Rattle.day_restart.proofs.Faults.{among}
use Rattle.day_restart.proofs.restored.end_each.Goals as goal

pub loop-place-init : goal.loop-place-init
loop-place-init g c = none_ended c.args.starts.now

pub returns-then-not-end-clause-fault : goal.returns-then-not-end-clause-fault
returns-then-not-end-clause-fault g c =
    let past = c.index-pasts-place.result in
    let long = c.loop-place.invariant.long in
    let each = c.requires in
    let there = slice_get_read c.args.pasts.now _ c.loop-place.place past refl
    (omega (arith, c.loop-place-test.true)) c.index-pasts-place.is in
    among (λ p. p.name.now) (λ p. length p.lines.now) c.args.pasts.now c.loop-place.place past (length past.lines.now)
    c.line_fault.result there (omega arith) c.line_fault.ensures

pub loop-place-preserved : goal.loop-place-preserved
loop-place-preserved g c =
    let now = c.loop-place.starts in
    let place = c.loop-place.place in
    let start = get_or now place c.index-starts-place.result in
    one_ended place c.args.starts.now now start c.end.new.self c.loop-place.invariant
    (slice_get-get_or now place c.index-starts-place.result (omega (arith, c.loop-place-test.true)))
    (record { all = c.end.ensures.all.0 c.if-not-end.false; ended = c.end.ensures.ended })

pub returns-clause-ended : goal.returns-clause-ended
returns-clause-ended g c =
    let long = c.loop-place.invariant.long in
    let at_end : c.loop-place.place ≡ length c.args.starts.now =
    omega (arith, c.loop-place-test.false, c.loop-place.auto.place-end) in
    all_ended c.args.starts.now c.loop-place.starts
    (subst (λ n. EndedTo n c.args.starts.now c.loop-place.starts) at_end c.loop-place.invariant)
