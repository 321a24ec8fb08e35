use Rattle.journal_folder.proofs.file_tape.fill.Given as goal

abbrev pub decreases-loop-left : goal.decreases-loop-left
decreases-loop-left l = l.left
