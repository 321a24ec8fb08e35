use Rattle.std.proofs.Common.{map}
use Rattle.thread_days.proofs.meeting.meet.Given as goal

abbrev pub ghosts-both_at-L-Run : goal.ghosts-both_at-L-Run
ghosts-both_at-L-Run g a = record {
  queues = map (λ ends. ends.0.table) a.site.rings.items;
  sweeps = a.site.workers.sweeps;
  slips = a.site.callers.slips;
}

abbrev pub ghosts-both_at-L-Ledger : goal.ghosts-both_at-L-Ledger
ghosts-both_at-L-Ledger g a = record { name = a.site.callers.name; parts = a.site.callers.parts }

abbrev pub ghosts-both_at-M-Ledger : goal.ghosts-both_at-M-Ledger
ghosts-both_at-M-Ledger g a = record { name = a.site.workers.name; parts = a.site.workers.parts }

abbrev pub ghosts-both_at-M-Accounts : goal.ghosts-both_at-M-Accounts
ghosts-both_at-M-Accounts g a = record { lists = a.site.workers.lists; sweeps = a.site.workers.sweeps }
