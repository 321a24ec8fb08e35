use Rattle.std.proofs.Common.{◌≡◌, ◌*◌, ◌≤◌, take}
use Rattle.share_ledger.specs.Entries.{sweep_shares}
use Rattle.share_ledger.proofs.sweep_shares.shares_of.Given as goal

abbrev pub invariant-loop-routed : goal.invariant-loop-routed
invariant-loop-routed l = record {
  sum : l.shares ≡ sweep_shares (take l.routed-index l.legs);
  few : l.shares ≤ 1000000 * l.routed-index;
}
