use Rattle.std.proofs.Common.{[], ◌++◌, take, drop, refl, ap, ◌∙◌, append_assoc, arith}
use Rattle.std.proofs.lemmas.List.{take-append-drop}
use Rattle.link.proofs.Taking.{tells_nothing, tells_more}
use Rattle.link.proofs.whole.write_whole.Goals as goal

pub loop-rest-init : goal.loop-rest-init
loop-rest-init g c = ([], refl, tells_nothing _, omega arith)

pub loop-rest-preserved : goal.loop-rest-preserved
loop-rest-preserved g c =
    let before = c.loop-rest.invariant.0 in let rest = c.loop-rest.rest.now in let n = c.in_ok-taken.taken in
    rw c.split_at.ensures.back (
      before ++ take n rest,
      append_assoc before (take n rest) (drop n rest) ∙ ap (λ l. before ++ l) (take-append-drop n rest) ∙ c.loop-rest.invariant.1,
      tells_more before (take n rest) _ _ _ c.loop-rest.invariant.2 c.in_ok-taken.ensures.wire,
      omega (arith, c.in_ok-taken.ensures.faults, c.loop-rest.invariant.3),
    )
