use Rattle.std.proofs.Common.{◌≡◌, ℕ, List, length}
use Rattle.journal_folder.specs.Found.{AreFound}
use Rattle.journal_folder.proofs.found.read_journal.Given as goal

abbrev pub invariant-loop-before : goal.invariant-loop-before
invariant-loop-before g l = (files : List (List ℕ)) × AreFound files l.found × (length files ≡ l.before)
