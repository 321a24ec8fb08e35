use Rattle.std.proofs.Common.{◌≡◌}
use Rattle.share_ledger.specs.Entries.{opened}
use Rattle.session_worker.proofs.Shares.{first_open}
use Rattle.session_worker.proofs.open_shares.open_shares.Given as goal

abbrev pub invariant-loop-sweep : goal.invariant-loop-sweep
invariant-loop-sweep l = l.shares ≡ first_open l.book 1 l.sweep (opened l.book.entries)
