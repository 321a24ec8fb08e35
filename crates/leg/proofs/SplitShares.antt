-- Each call of a split keeps the leg's shares.
use Rattle.std.proofs.Common.{◌≡◌, ℕ, arith}
use Rattle.std.proofs.lemmas.Bool.Decides.{nat_tests}
use Rattle.leg.specs.Split.{SplitParts, leg_shares, split_fill, split_cancel_rest, split_withdraw, split_bust}

pub leg_shares-split_fill : (split : SplitParts) (n : ℕ) → leg_shares (split_fill split n).1 ≡ leg_shares split
leg_shares-split_fill split n = grind (arith, nat_tests)

pub leg_shares-split_cancel_rest : (split : SplitParts) → leg_shares (split_cancel_rest split) ≡ leg_shares split
leg_shares-split_cancel_rest split = omega arith

pub leg_shares-split_withdraw : (split : SplitParts) → leg_shares (split_withdraw split).1 ≡ leg_shares split
leg_shares-split_withdraw split = grind (arith, nat_tests)

pub leg_shares-split_bust : (split : SplitParts) (n : ℕ) → leg_shares (split_bust split n).1 ≡ leg_shares split
leg_shares-split_bust split n = grind (arith, nat_tests)
