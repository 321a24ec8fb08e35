use Rattle.std.proofs.Common.{◌≡◌, ◌≤◌, replicate}
use Rattle.std.specs.Prelude.{vec_capacity, vec_len}
use Rattle.share_ledger.proofs.ledger.Ledger.new.Given as goal

abbrev pub invariant-each : goal.invariant-each
invariant-each l = record {
  zeros : l.resolved.items ≡ replicate l.counter 0;
  count : vec_len l.resolved ≡ l.counter;
  room : l.venues ≤ vec_capacity l.resolved;
}
