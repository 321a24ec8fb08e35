use Rattle.lock_tests.proofs.counts.the_seats_count_what_is_resolved.Given as goal

abbrev pub ghosts-two_workers-M-Ledger : goal.ghosts-two_workers-M-Ledger
ghosts-two_workers-M-Ledger g a = record { name = a.blank.name; parts = a.blank.parts }

abbrev pub ghosts-two_workers-M-Accounts : goal.ghosts-two_workers-M-Accounts
ghosts-two_workers-M-Accounts g a = record { lists = a.blank.lists; sweeps = a.blank.sweeps }
