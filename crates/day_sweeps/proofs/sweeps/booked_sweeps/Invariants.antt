use Rattle.std.proofs.Common.{◌≡◌, ◌++◌, suc, drop, All}
use Rattle.share_ledger.specs.Entries.{opened}
use Rattle.day_sweeps.specs.Sweeps.{sweeps_from, sweeps_in, AddsUp}
use Rattle.day_sweeps.proofs.sweeps.booked_sweeps.Given as goal

abbrev pub invariant-loop-place : goal.invariant-loop-place
invariant-loop-place l =
    (l.sweeps.items ++ sweeps_from l.book (suc l.place) (drop l.place (opened l.book.entries)) ≡ sweeps_in l.book)
    × All AddsUp l.sweeps.items
