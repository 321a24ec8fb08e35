use Rattle.exec_collector.proofs.Telling.{told_once}
use Rattle.exec_collector.proofs.laws.each_note_is_told_once.Goals as goal

pub returns : goal.returns
returns c = told_once
