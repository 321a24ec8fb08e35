use Rattle.std.proofs.Common.{map}
use Rattle.desk_run.proofs.running.run_day.Given as goal

abbrev pub ghosts-named_day-L-Run : goal.ghosts-named_day-L-Run
ghosts-named_day-L-Run g a = record {
  queues = map (λ ends. ends.0.table) a.rings.items;
  sweeps = a.workers.sweeps;
  slips = a.callers.slips;
}

abbrev pub ghosts-named_day-L-Ledger : goal.ghosts-named_day-L-Ledger
ghosts-named_day-L-Ledger g a = record { name = a.callers.name; parts = a.callers.parts }

abbrev pub ghosts-named_day-M-Ledger : goal.ghosts-named_day-M-Ledger
ghosts-named_day-M-Ledger g a = record { name = a.workers.name; parts = a.workers.parts }

abbrev pub ghosts-named_day-M-Accounts : goal.ghosts-named_day-M-Accounts
ghosts-named_day-M-Accounts g a = record { lists = a.workers.lists; sweeps = a.workers.sweeps }
