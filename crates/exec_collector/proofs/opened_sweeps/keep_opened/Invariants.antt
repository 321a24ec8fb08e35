use Rattle.share_ledger.specs.Entries.{opened}
use Rattle.exec_collector.specs.Opened.{sweeps_of}
use Rattle.exec_collector.proofs.opened_sweeps.keep_opened.Given as goal

abbrev pub ghost-set_both : goal.ghost-set_both
ghost-set_both a = sweeps_of (opened a._book.now.entries)
