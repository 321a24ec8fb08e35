use Rattle.std.proofs.Common.{◌≡◌, ◌*◌, ◌≤◌, take}
use Rattle.std.specs.Prelude.{sum_by}
use Rattle.share_ledger.proofs.ledger.totals_of.Given as goal

abbrev pub invariant-loop-leg : goal.invariant-loop-leg
invariant-loop-leg l = record {
  filled : l.sums.filled ≡ sum_by (λ leg. leg.parts.filled) (take l.leg-index l.legs);
  busted : l.sums.busted ≡ sum_by (λ leg. leg.parts.busted) (take l.leg-index l.legs);
  cancelled : l.sums.cancelled ≡ sum_by (λ leg. leg.parts.cancelled) (take l.leg-index l.legs);
  withdrawn : l.sums.withdrawn ≡ sum_by (λ leg. leg.parts.withdrawn) (take l.leg-index l.legs);
  still_open : l.sums.still_open ≡ sum_by (λ leg. leg.parts.still_open) (take l.leg-index l.legs);
  few_filled : l.sums.filled ≤ 1000000 * l.leg-index;
  few_busted : l.sums.busted ≤ 1000000 * l.leg-index;
  few_cancelled : l.sums.cancelled ≤ 1000000 * l.leg-index;
  few_withdrawn : l.sums.withdrawn ≤ 1000000 * l.leg-index;
  few_open : l.sums.still_open ≤ 1000000 * l.leg-index;
}
