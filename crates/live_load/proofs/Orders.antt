-- The shares of a sweep of ten for each venue.
use Rattle.std.proofs.Common.{◌≡◌, ◌*◌, ℕ, zero, suc, refl, arith}
use Rattle.std.proofs.lemmas.List.Sums.{sum_by_push}
use Rattle.leg.specs.declared.sweep.Routed.{Routed}
use Rattle.share_ledger.specs.Entries.{sweep_shares}
use Rattle.live_load.specs.Sweeps.{one_order, orders_to}

pub orders_shares : (venues : ℕ) → sweep_shares (orders_to venues) ≡ 10 * venues
orders_shares zero = refl
orders_shares (suc venues) =
    let rest = orders_shares venues in
    let one = sum_by_push (λ (r : Routed). r.terms.shares) (orders_to venues) (one_order venues) in
    omega (arith, rest, one)
