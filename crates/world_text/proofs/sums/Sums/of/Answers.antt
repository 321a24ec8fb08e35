use Rattle.std.proofs.Common.{rules, ◌≡◌, ◌+◌, ◌≤◌, ◌∷◌, List, length, drop, suc, sym, ap, subst, ◌∙◌, arith}
use Rattle.std.proofs.lemmas.List.Elements.{All-head, All-tail}
use Rattle.leg.specs.declared.sweep.Routed.{Routed}
use Rattle.share_ledger.specs.Entries.{sweep_shares}
use Rattle.sweep_release.specs.Kept.{released_sweeps, AreShort}
use Rattle.schedule.specs.World.{totals}
use Rattle.world_text.specs.Summary.{sums_after, with_sweep}
use Rattle.world_text.proofs.SweepLines.{sweep_at, no_sweep_at}
use Rattle.world_text.proofs.SummaryLines.{one_sweep}
use Rattle.world_text.proofs.sums.Sums.of.Goals as goal
use Rattle.world_text.proofs.sums.Sums.of.Goals.{in-Released, in_default}

pub shares_of-shares-requires : goal.shares_of-shares-requires
shares_of-shares-requires g c =
    let entries = c.history-history.result.now in
    let at = c.loop-entry.entry-index in
    let sweep = c.in-Released.sweep in
    let left = sweep_at entries at c.entry-item.result sweep c.loop-entry-test.true c.entry-item.is c.in-Released.is in
    let short : length sweep.legs ≤ 32 =
    All-head (λ (l : List Routed). length l ≤ 32) sweep.legs (released_sweeps (drop (at + 1) entries))
    (subst AreShort left c.loop-entry.invariant.few_legs) in
    subst (λ (l : List Routed). length l ≤ 32) (sym c.as_slice.ensures) short

pub loop-entry-preserved : goal.loop-entry-preserved
loop-entry-preserved g c =
    let w = c.args.world.now in
    let entries = c.history-history.result.now in
    let at = c.loop-entry.entry-index in
    let number = c.loop-entry.number in
    let passed = c.loop-entry.invariant.passed in
    let there = c.loop-entry-test.true in
    elim c.match-entry.branch [
      | in-Released x ↦
          (let sweep = x.in-Released.sweep in
          let left = sweep_at entries at c.entry-item.result sweep there c.entry-item.is x.in-Released.is in
          let added : c.match-entry.sums ≡ with_sweep c.loop-entry.sums (sweep_shares sweep.legs) (totals w c.match-entry.number) = search rules in
          record {
            passed = omega (arith, x.number-is, passed);
            sums = one_sweep w number c.match-entry.number (released_sweeps (drop at entries))
                (released_sweeps (drop (at + 1) entries)) sweep.legs c.loop-entry.sums c.match-entry.sums _ x.number-is left added
                c.loop-entry.invariant.sums;
            few_legs = All-tail (λ (l : List Routed). length l ≤ 32) sweep.legs (released_sweeps (drop (at + 1) entries))
                (subst AreShort left c.loop-entry.invariant.few_legs);
          })
      | in_default x ↦
          (let left = no_sweep_at entries at c.entry-item.result there c.entry-item.is x.in_default.not-Released in
          record {
            passed = omega (arith, x.number-is, passed);
            sums = (λ k. sums_after w (suc (x.number-is k)) (x.sums-is k) (sym left k)) ∙ c.loop-entry.invariant.sums;
            few_legs = subst AreShort left c.loop-entry.invariant.few_legs;
          })
    ]
