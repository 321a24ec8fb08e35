use Rattle.dialect.proofs.accepted.+left_of.Given as goal

abbrev pub decreases-left_of : goal.decreases-left_of
decreases-left_of l = l.width
