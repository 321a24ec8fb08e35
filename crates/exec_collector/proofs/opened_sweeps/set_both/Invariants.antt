use Rattle.exec_collector.proofs.opened_sweeps.set_both.Given as goal

abbrev pub ghost-set : goal.ghost-set
ghost-set g a = g.items
