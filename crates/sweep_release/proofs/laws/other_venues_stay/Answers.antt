use Rattle.sweep_release.proofs.AtVenue.{only-gate_up, only-gate_down, only-shut, only-take, only-drop_next}
use Rattle.sweep_release.proofs.laws.other_venues_stay.Goals as goal

pub returns-clause-gate_up : goal.returns-clause-gate_up
returns-clause-gate_up c = only-gate_up

pub returns-clause-gate_down : goal.returns-clause-gate_down
returns-clause-gate_down c = only-gate_down

pub returns-clause-shut : goal.returns-clause-shut
returns-clause-shut c = only-shut

pub returns-clause-take : goal.returns-clause-take
returns-clause-take c = only-take

pub returns-clause-drop_next : goal.returns-clause-drop_next
returns-clause-drop_next c = only-drop_next
