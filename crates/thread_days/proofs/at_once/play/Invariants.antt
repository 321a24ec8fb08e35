use Rattle.std.proofs.Common.{map}
use Rattle.thread_days.proofs.at_once.play.Given as goal

abbrev pub ghosts-day_at-L-Run : goal.ghosts-day_at-L-Run
ghosts-day_at-L-Run g a = record {
  queues = map (λ ends. ends.0.table) a.site.rings.items;
  sweeps = a.site.workers.sweeps;
  slips = a.site.callers.slips;
}

abbrev pub ghosts-day_at-L-Ledger : goal.ghosts-day_at-L-Ledger
ghosts-day_at-L-Ledger g a = record { name = a.site.callers.name; parts = a.site.callers.parts }

abbrev pub ghosts-day_at-M-Ledger : goal.ghosts-day_at-M-Ledger
ghosts-day_at-M-Ledger g a = record { name = a.site.workers.name; parts = a.site.workers.parts }

abbrev pub ghosts-day_at-M-Accounts : goal.ghosts-day_at-M-Accounts
ghosts-day_at-M-Accounts g a = record { lists = a.site.workers.lists; sweeps = a.site.workers.sweeps }
