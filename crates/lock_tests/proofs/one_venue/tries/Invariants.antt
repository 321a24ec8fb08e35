use Rattle.std.proofs.Common.{map}
use Rattle.lock_tests.proofs.one_venue.tries.Given as goal

abbrev pub ghosts-at_one_venue-L-Run : goal.ghosts-at_one_venue-L-Run
ghosts-at_one_venue-L-Run g a = record {
  queues = map (λ ends. ends.0.table) a.rings.items;
  sweeps = a.workers.sweeps;
  slips = a.callers.slips;
}

abbrev pub ghosts-at_one_venue-L-Ledger : goal.ghosts-at_one_venue-L-Ledger
ghosts-at_one_venue-L-Ledger g a = record { name = a.callers.name; parts = a.callers.parts }

abbrev pub ghosts-at_one_venue-M-Ledger : goal.ghosts-at_one_venue-M-Ledger
ghosts-at_one_venue-M-Ledger g a = record { name = a.workers.name; parts = a.workers.parts }

abbrev pub ghosts-at_one_venue-M-Accounts : goal.ghosts-at_one_venue-M-Accounts
ghosts-at_one_venue-M-Accounts g a = record { lists = a.workers.lists; sweeps = a.workers.sweeps }
