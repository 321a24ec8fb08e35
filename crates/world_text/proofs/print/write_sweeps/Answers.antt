use Rattle.std.proofs.Common.{rules, ◌≡◌, ◌+◌, ◌<◌, ◌≤◌, ◌∷◌, ◌++◌, List, length, drop, suc, refl, sym, ap, subst, ◌∙◌, arith}
use Rattle.std.specs.Prelude.{string_bytes}
use Rattle.std.proofs.lemmas.List.Elements.{All-head, All-tail}
use Rattle.leg.specs.declared.sweep.Routed.{Routed}
use Rattle.sweep_release.specs.Kept.{released_sweeps, AreShort}
use Rattle.schedule.specs.Printed.{sweep_line, sweep_lines}
use Rattle.world_text.proofs.SweepLines.{sweep_at, no_sweep_at, one_sweep}
use Rattle.world_text.proofs.print.write_sweeps.Goals as goal
use Rattle.world_text.proofs.print.write_sweeps.Goals.{in-Released+in_ok-write_sweep, in_default}

pub write_sweep-requires : goal.write_sweep-requires
write_sweep-requires g c =
    let entries = c.history-history.result.now in
    let at = c.loop-entry.entry-index in
    let sweep = c.in-Released.sweep in
    let left = sweep_at entries at c.entry-item.result sweep c.loop-entry-test.true c.entry-item.is c.in-Released.is in
    let short : length sweep.legs ≤ 32 =
    All-head (λ (l : List Routed). length l ≤ 32) sweep.legs (released_sweeps (drop (at + 1) entries))
    (subst AreShort left c.loop-entry.invariant.few_legs) in
    subst (λ (l : List Routed). length l ≤ 32) (sym c.as_slice.ensures) short

pub loop-entry-preserved : goal.loop-entry-preserved
loop-entry-preserved g c =
    let w = c.args.world.now in
    let entries = c.history-history.result.now in
    let at = c.loop-entry.entry-index in
    let number = c.loop-entry.number in
    let passed = c.loop-entry.invariant.passed in
    let there = c.loop-entry-test.true in
    elim c.match-entry.branch [
      | in-Released+in_ok-write_sweep x ↦
          (let sweep = x.in-Released.sweep in
          let left = sweep_at entries at c.entry-item.result sweep there c.entry-item.is x.in-Released.is in
          let written : string_bytes c.match-entry.text
          ≡ string_bytes c.loop-entry.text ++ sweep_line w c.match-entry.number sweep.legs = search rules in
          record {
            passed = omega (arith, x.number-is, passed);
            lines = one_sweep w number c.match-entry.number (released_sweeps (drop at entries))
                (released_sweeps (drop (at + 1) entries)) sweep.legs (string_bytes c.loop-entry.text)
                (string_bytes c.match-entry.text) _ x.number-is left written c.loop-entry.invariant.lines;
            few_legs = All-tail (λ (l : List Routed). length l ≤ 32) sweep.legs (released_sweeps (drop (at + 1) entries))
                (subst AreShort left c.loop-entry.invariant.few_legs);
          })
      | in_default x ↦
          (let left = no_sweep_at entries at c.entry-item.result there c.entry-item.is x.in_default.not-Released in
          let same : string_bytes c.match-entry.text ≡ string_bytes c.loop-entry.text = ap string_bytes x.text-is in
          record {
            passed = omega (arith, x.number-is, passed);
            lines = (λ k. same k ++ sweep_lines w (suc (x.number-is k)) (sym left k)) ∙ c.loop-entry.invariant.lines;
            few_legs = subst AreShort left c.loop-entry.invariant.few_legs;
          })
    ]
