use Rattle.std.proofs.Common.{[], ◌∷◌, ◌≡◌, ◌+◌, suc, length, ap, arith, Some, subst, ℕ}
use Rattle.std.proofs.lemmas.List.{length-append}
use Rattle.desk_serve.proofs.Showing.{booked_more}
use Rattle.day_sweeps.specs.Paid.{IsPaid}
use Rattle.desk_serve.proofs.shown.sweeps_behind.Goals as goal

pub loop-before-preserved : goal.loop-before-preserved
loop-before-preserved g c =
    let so_far = c.loop-before.invariant.0 in
    let pushed = c.in_ok-push-in-Some.ensures.items in
    let number : c.loop-before.before + 1 ≡ suc c.args.after + length c.loop-before.sweeps.items = omega (arith, so_far) in
    let one = length-append c.loop-before.sweeps.items (c.in-Some.sweep ∷ []) in
    let more = ap length pushed in (
      omega (arith, so_far, one, more),
      rw pushed (booked_more (suc c.args.after) c.loop-before.sweeps.items c.in-Some.sweep c.loop-before.invariant.1
          (subst (λ (n : ℕ). IsPaid n (Some c.in-Some.sweep)) number c.in-Some.ensures.booked) c.in-Some.ensures.adds_up),
    )
