use Rattle.sweep_release.proofs.Calls.{replayed-release, replayed-gate_up, replayed-gate_down, replayed-shut, replayed-take, replayed-drop_next}
use Rattle.sweep_release.proofs.laws.each_entry_leads_on.Goals as goal

pub returns-clause-release : goal.returns-clause-release
returns-clause-release c = replayed-release

pub returns-clause-gate_up : goal.returns-clause-gate_up
returns-clause-gate_up c = replayed-gate_up

pub returns-clause-gate_down : goal.returns-clause-gate_down
returns-clause-gate_down c = replayed-gate_down

pub returns-clause-shut : goal.returns-clause-shut
returns-clause-shut c = replayed-shut

pub returns-clause-take : goal.returns-clause-take
returns-clause-take c = replayed-take

pub returns-clause-drop_next : goal.returns-clause-drop_next
returns-clause-drop_next c = replayed-drop_next
