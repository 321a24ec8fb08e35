use Rattle.std.proofs.Common.{◌+◌, ◌≤◌, length, refl, sym, ap, ◌∙◌, arith}
use Rattle.std.proofs.lemmas.List.Elements.{All-push}
use Rattle.day_sweeps.specs.Sweeps.{AddsUp}
use Rattle.day_sweeps.proofs.Booked.{few_shares, one_more, none_more, all_told}
use Rattle.day_sweeps.proofs.sweeps.booked_sweeps.Goals as goal

pub returns-in-None-clause-value : goal.returns-in-None-clause-value
returns-in-None-clause-value c =
    none_more c.args.book.now c.loop-place.place c.loop-place.sweeps.items (sym c.totals.ensures ∙ c.in-None.is)
    c.loop-place.invariant.0

pub sum_of-requires : goal.sum_of-requires
sum_of-requires c =
    few_shares c.args.book.now c.loop-place.place c.in-Some.totals c.requires (sym c.totals.ensures ∙ c.in-Some.is)

pub loop-place-preserved : goal.loop-place-preserved
loop-place-preserved c =
    let place = c.loop-place.place in
    let told = sym c.totals.ensures ∙ c.in-Some.is in (
      one_more c.args.book.now place (place + 1) c.sum_of.result c.in-Some.totals c.loop-place.sweeps.items _ c.requires
          told refl c.sum_of.ensures c.in_ok-push-in-Some.ensures.items c.loop-place.invariant.0,
      rw c.in_ok-push-in-Some.ensures.items
          (All-push AddsUp c.loop-place.sweeps.items _ c.loop-place.invariant.1 c.sum_of.ensures),
    )

pub returns-clause-value : goal.returns-clause-value
returns-clause-value c =
    let all = ap length c.history-place-end.ensures in
    let few : length c.args.book.now.entries ≤ c.loop-place.place = omega (arith, all) in
    all_told c.args.book.now c.loop-place.place c.loop-place.sweeps.items few c.loop-place.invariant.0
